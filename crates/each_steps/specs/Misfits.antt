-- Entries that are formulas where a value is asked for, and values where a formula is.
use Rattle.std.specs.Prelude.{ℕ, List, ◌≡◌}
use Rattle.operands.specs.Entries.{kind_at}
use Rattle.operands.specs.Classes.{a_formula, class_of}
use Rattle.operands.specs.Makings.{a_misfit, making_of}
use Rattle.machine.specs.Came.{Evaluate, Expand}
use Rattle.machine.specs.States.{mode_of}
use Rattle.machine.specs.declared.Machine.{Machine}

-- the entry is a formula's, asked for as a value
pub record Logical (work : List ℕ) (m : Machine) : Type 0 where
  pub mode : m.mode ≡ mode_of Evaluate
  pub class : class_of (kind_at work m.value) ≡ a_formula

-- the entry is no formula's, asked for as one
pub record Formless (work : List ℕ) (m : Machine) : Type 0 where
  pub mode : m.mode ≡ mode_of Expand
  pub making : making_of (kind_at work m.value) ≡ a_misfit
