-- Parts of a table: the words from an index on, the same moved to another index, and a formula that stands there.
use Rattle.std.specs.Prelude.{ℕ, zero, suc, ◌+◌, ◌≤◌, ◌≡◌, List, [], ◌∷◌, ◌++◌, map, get_or}
use Rattle.node.specs.Limits.{max_nodes, field_limit}
use Rattle.node.specs.Ltl.{Formula}
use Rattle.node.specs.Postorder.{size, nodes_from, SignalsBelow}
use Rattle.writing.specs.Moving.{moved}

-- the n words from index `from` on
unfoldable pub part : ℕ → ℕ → List ℕ → List ℕ
part from zero l = []
part from (suc n) l = part from n l ++ (get_or l (from + n) 0 ∷ [])

-- the n nodes from index `from` on, as they are numbered from `to` on
abbrev pub moves : ℕ → ℕ → ℕ → List ℕ → List ℕ
moves from to n l = map (moved from to) (part from n l)

-- the formula's nodes stand in the table from `at` on
pub record Stands (f : Formula) (out : List ℕ) (at : ℕ) : Type 0 where
  pub room : at + size f ≤ max_nodes
  pub words : part at (size f) out ≡ nodes_from at f
  pub signals : SignalsBelow field_limit f
