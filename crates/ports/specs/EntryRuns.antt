-- The entries of one name's signals as the code makes them: the fields joined, the index counting up.
use Rattle.std.specs.Prelude.{ℕ, zero, suc, ◌+◌, ◌-◌, ◌≤◌, List, [], ◌∷◌, ◌≡◌, length}
use Rattle.std.proofs.lemmas.List.Edits.{sets}
use Rattle.language.specs.Limits.{offset_bits, index_bits, width_bits}
use Rattle.language.specs.Numbering.{fields}

-- n entries from index i on
unfoldable pub run : (top offset width n i : ℕ) → List ℕ
run top offset width zero i = []
run top offset width (suc n) i = fields offset_bits index_bits width_bits top offset i width ∷ run top offset width n (suc i)

-- what stands after i entries: the rest is still to be stored
pub record Stores (top offset width count at i : ℕ) (old new : List ℕ) : Type 0 where
  pub size : length new ≡ length old
  pub few : i ≤ count
  pub rest : sets old at (run top offset width count 0) ≡ sets new (at + i) (run top offset width (count - i) i)
