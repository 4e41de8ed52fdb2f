-- What the writer promises: a formula's nodes, in postorder, in a slice of at most 8,192 entries, as far as it reaches. Laws in StoringLaws.
use Rattle.std.specs.Prelude.{ℕ, ◌+◌, ◌<◌, ◌≤◌, ◌≡◌, List, [], ◌∷◌, length, get_or, Option, Some, None}
use Rattle.std.proofs.lemmas.List.Edits.{sets}
use Rattle.node.specs.Limits.{max_nodes}
use Rattle.node.specs.Ltl.{Formula, True, False}
use Rattle.node.specs.Postorder.{nodes_from}

-- the words `vs` stored from index `at` on, and the next index is n
pub record Stored (vs out out' : List ℕ) (at n : ℕ) : Type 0 where
  pub next : n ≡ at + length vs
  pub room : n ≤ length out
  pub entries : out' ≡ sets out at vs

-- stored, with the next index as the answer; or no answer, and the slice is too short
pub record Puts (r : Option ℕ) (vs out out' : List ℕ) (at : ℕ) : Type 0 where
  pub stored : (n : ℕ) → r ≡ Some n → Stored vs out out' at n
  pub short : r ≡ None → length out < at + length vs

-- the formula's nodes, numbered from `at`
abbrev pub Wrote : Option ℕ → Formula → List ℕ → List ℕ → ℕ → Type 0
Wrote r f out out' at = Puts r (nodes_from at f) out out' at

-- what they ask of the slice and the first index
pub record Room (out : List ℕ) (at : ℕ) : Type 0 where
  pub start : at ≤ length out
  pub few : length out ≤ max_nodes

-- the formula that a constant's kind stands for
abbrev pub constant_of : ℕ → Formula
constant_of k = get_or (True ∷ False ∷ []) k True
