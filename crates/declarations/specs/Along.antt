-- Things in order, and the entry of each in a slice.
use Rattle.std.specs.Prelude.{ℕ, suc, List, [], ◌∷◌, get_or}

-- P of each and of its entry, from position j on
abbrev pub Along : {A : Type 0} → (A → ℕ → Type 0) → List ℕ → ℕ → List A → Type 0
Along P order j [] = Unit {0}
Along P order j (a ∷ l) = P a (get_or order j 0) × Along P order (suc j) l
