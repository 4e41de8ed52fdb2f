-- Where a definition's nodes stand, in one number, and those nodes once more.
use Rattle.std.specs.Prelude.{ℕ, ◌+◌, ◌-◌, ◌/◌, ◌%◌, ◌≤◌, List, ◌≡◌}
use Rattle.node.specs.Limits.{max_nodes, field_limit}
use Rattle.node.specs.Ltl.{Formula}
use Rattle.node.specs.Postorder.{size}
use Rattle.writing.specs.Writing.{Wrote}
use Rattle.writing.specs.Parts.{Stands}
use Rattle.machine.specs.Notes.{marked}

-- the nodes [at, m), as long as they fit
pub record Marked (at m v : ℕ) : Type 0 where
  pub some : v ≡ 0 → ⊥
  pub noted : m ≤ max_nodes → v ≡ marked at (m - at)

-- the nodes that v notes lie before `at`
pub record Copyable (v at : ℕ) : Type 0 where
  pub within : at ≤ max_nodes → v / field_limit + v % field_limit ≤ max_nodes
  pub before : at ≤ max_nodes → v / field_limit + v % field_limit ≤ at

-- whatever formula v notes
pub record Again (v : ℕ) (out out' : List ℕ) (at r : ℕ) : Type 0 where
  pub wrote : (f : Formula) (from : ℕ) → (at ≤ max_nodes → v ≡ marked from (size f)) → (at ≤ max_nodes → Stands f out from) → Wrote f out out' at r
