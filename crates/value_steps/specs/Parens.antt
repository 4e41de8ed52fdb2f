-- An entry that is a parenthesis.
use Rattle.std.specs.Prelude.{ℕ, ◌≤◌, List, ◌≡◌}
use Rattle.entries.specs.Kinds as Kind
use Rattle.operands.specs.Entries.{kind_at}
use Rattle.machine.specs.Came.{Expand}
use Rattle.machine.specs.States.{mode_of}
use Rattle.machine.specs.declared.Machine.{Machine}

-- an entry that is a parenthesis, whatever it is worked out as
pub record Parenthesis (work : List ℕ) (m : Machine) : Type 0 where
  pub mode : m.mode ≤ mode_of Expand
  pub kind : kind_at work m.value ≡ Kind.paren
