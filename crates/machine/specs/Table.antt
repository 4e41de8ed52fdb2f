-- The table of nodes: formulas written one after another.
use Rattle.std.specs.Prelude.{ℕ, ◌≤◌, List, [], ◌∷◌, ◌≡◌, length}
use Rattle.node.specs.Limits.{max_nodes}
use Rattle.writing.specs.Writing.{Wrote}
use Rattle.machine.specs.Memory.{Regions}
use Rattle.machine.specs.Holding.{Laying}

-- how a run began: where slots and values begin, the table and its next index. The table's length is known as long as it has room.
pub record Began : Type 0 where
  pub regions : Regions
  pub table : List ℕ
  pub index : ℕ
  pub sized : index ≤ max_nodes → length table ≡ max_nodes

-- the last formula stands after the others, which were written into `before` up to `at`
pub record Last (L : List ℕ → ℕ → Type 0) (l : Laying) (out : List ℕ) (n : ℕ) : Type 0 where
  pub before : List ℕ
  pub at : ℕ
  pub others : L before at
  pub wrote : Wrote l.formula before out at n
  pub ends : l.end ≡ n

unfoldable pub Lays : Began → List Laying → List ℕ → ℕ → Type 0
Lays o [] out n = (out ≡ o.table) × (n ≡ o.index)
Lays o (l ∷ ls) out n = Last (Lays o ls) l out n

-- the formulas, the last written first, stand in `out` up to n
pub record Laid (o : Began) (ls : List Laying) (out : List ℕ) (n : ℕ) : Type 0 where
  pub lays : Lays o ls out n

-- the index after them
abbrev pub end_of : Began → List Laying → ℕ
end_of o [] = o.index
end_of o (l ∷ ls) = l.end
