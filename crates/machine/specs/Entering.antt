-- What the steps ask for: an entry of a kind, to be worked out as a value or as a formula; a frame of a phase that takes what has come.
use Rattle.std.specs.Prelude.{ℕ, ◌≤◌, ◌<◌, List, ◌≡◌}
use Rattle.operands.specs.Entries.{kind_at}
use Rattle.machine.specs.Came.{Evaluate, Expand}
use Rattle.machine.specs.States.{mode_of, phase_at}
use Rattle.machine.specs.declared.Machine.{Machine}

-- the entry has one of the kinds from `low` up to `high`
pub record Evaluates (work : List ℕ) (m : Machine) (low high : ℕ) : Type 0 where
  pub mode : m.mode ≡ mode_of Evaluate
  pub from : low ≤ kind_at work m.value
  pub until : kind_at work m.value < high

pub record Expands (work : List ℕ) (m : Machine) (low high : ℕ) : Type 0 where
  pub mode : m.mode ≡ mode_of Expand
  pub from : low ≤ kind_at work m.value
  pub until : kind_at work m.value < high

pub record Waiting (mem : List ℕ) (m : Machine) (p : ℕ) : Type 0 where
  pub phase : phase_at mem m ≡ p
