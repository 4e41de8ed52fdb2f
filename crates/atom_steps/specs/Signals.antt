-- A signal of a declared name as it is written.
use Rattle.std.specs.Prelude.{ℕ, ◌+◌, ◌≤◌, List, ◌≡◌}
use Rattle.node.specs.Limits.{max_nodes}
use Rattle.node.specs.Ltl.{Signal}
use Rattle.writing.specs.Writing.{Wrote}

-- whatever number the signal has, if it is asked for
pub record Signalled (first i : ℕ) (out out' : List ℕ) (at r : ℕ) : Type 0 where
  pub wrote : (j : ℕ) → (at ≤ max_nodes → first + i ≡ j) → Wrote (Signal j) out out' at r
