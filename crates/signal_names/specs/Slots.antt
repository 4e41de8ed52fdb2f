-- The names in slots: those before a slot, and a name put into one.
use Rattle.std.specs.Prelude.{ℕ, zero, suc, ◌<◌, ◌≤◌, ◌≡◌, List, [], ◌∷◌, length}
use Rattle.std.proofs.lemmas.List.Edits.{sets}
use Rattle.language.specs.Limits.{max_name}
use Rattle.signal_names.specs.Promise.{slot}

-- the names in the slots before k, the last first
abbrev pub earlier : (names sizes : List ℕ) → ℕ → List (List ℕ)
earlier names sizes zero = []
earlier names sizes (suc k) = slot names sizes k ∷ earlier names sizes k

-- the name n is written at `at`, its size told; or it is too long
pub record PutsName (n names names' : List ℕ) (at size : ℕ) : Type 0 where
  pub whole : size ≤ max_name → (size ≡ length n) × (names' ≡ sets names at n)
  pub long : max_name < size → max_name < length n
  pub kept : length names' ≡ length names
