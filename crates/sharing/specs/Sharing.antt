-- A formula written out as a table with 'each distinct subformula once, at its first place in postorder, so no two nodes of a result are equal' (document 02, F-10).
-- Laws: of a place in PlaceLaws, of writing in WriteLaws and StandsLaws, of the nodes in DistinctLaws, OnceLaws, CountLaws, BoundLaws and ForbiddenLaws.
use Rattle.std.specs.Prelude.{ℕ, suc, List, [], ◌∷◌, ◌++◌, true, false, length, eqb, ltb}
use Rattle.node.specs.Ltl.{Formula, True, False, Signal, One, Two}
use Rattle.node.specs.Fields.{pack}
use Rattle.node.specs.Kinds.{unary_kind, binary_kind, true_kind, false_kind, signal_kind}

-- the number of the first node that is this word, or of the next one
unfoldable pub position : List ℕ → ℕ → ℕ
position [] w = 0
position (x ∷ t) w = elim (eqb x w) [ true ↦ 0 | false ↦ suc (position t w) ]

-- the table with the word: as it was if it has one, else behind the others
unfoldable pub having : List ℕ → ℕ → List ℕ
having t w = elim (ltb (position t w) (length t)) [ true ↦ t | false ↦ t ++ (w ∷ []) ]

-- a table that holds a formula, and the number of its node
pub record Placed : Type 0 where
  pub table : List ℕ
  pub number : ℕ

abbrev pub place : List ℕ → ℕ → Placed
place t w = record { table = having t w; number = position t w }

-- a formula's nodes behind a table, left operand first, each unless it stands there already
unfoldable pub write : List ℕ → Formula → Placed
write t True = place t (pack true_kind 0 0)
write t False = place t (pack false_kind 0 0)
write t (Signal k) = place t (pack signal_kind k 0)
write t (One o a) = let x = write t a in place x.table (pack (unary_kind o) x.number 0)
write t (Two o a b) = let x = write t a in let y = write x.table b in place y.table (pack (binary_kind o) x.number y.number)

-- a formula's nodes, and how many they are
unfoldable pub distinct_nodes : Formula → List ℕ
distinct_nodes f = (write [] f).table

unfoldable pub distinct_count : Formula → ℕ
distinct_count f = length (distinct_nodes f)
