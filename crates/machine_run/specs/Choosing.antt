-- Which step is taken: an entry by its kind, a frame by its phase.
use Rattle.std.specs.Prelude.{ℕ, ◌≤◌, ◌<◌, List, ◌≡◌}
use Rattle.entries.specs.Kinds as Kind
use Rattle.operands.specs.Entries.{kind_at}
use Rattle.machine.specs.Came.{Evaluate}
use Rattle.machine.specs.States.{mode_of, phase_at}
use Rattle.machine.specs.declared.Machine.{Machine}

-- the entry's kind k lies from `low` up to `high`
pub record Kinded (work : List ℕ) (m : Machine) (aim k low high : ℕ) : Type 0 where
  pub mode : m.mode ≡ aim
  pub same : k ≡ kind_at work m.value
  pub from : low ≤ k
  pub until : k < high

-- the entry is worked out as a value, and has a kind from that of the first big operator on
pub record Collected (work : List ℕ) (m : Machine) (k : ℕ) : Type 0 where
  pub mode : m.mode ≡ mode_of Evaluate
  pub same : k ≡ kind_at work m.value
  pub from : Kind.big_numbers ≤ k

-- the last frame's phase p lies from `low` up to `high`
pub record Phased (mem : List ℕ) (m : Machine) (p low high : ℕ) : Type 0 where
  pub same : p ≡ phase_at mem m
  pub from : low ≤ p
  pub until : p < high
