-- Sets of numbers, as their elements in ascending order.
use Rattle.std.specs.Prelude.{ℕ, zero, suc, ◌+◌, ◌-◌, ◌/◌, Bool, true, false, not, ◌||◌, List, [], ◌∷◌, eqb, ltb}
use Rattle.language.specs.Bytes.{if◌then◌otherwise◌}
use Rattle.language.specs.Operators.{Combination, Cup, Cap, Without}

abbrev pub member_of : List ℕ → ℕ → Bool
member_of [] k = false
member_of (x ∷ s) k = eqb k x || member_of s k

abbrev pub insert : ℕ → List ℕ → List ℕ
insert x [] = x ∷ []
insert x (y ∷ s) =
    elim (ltb x y) [ true ↦ x ∷ y ∷ s | false ↦ elim (eqb x y) [ true ↦ y ∷ s | false ↦ y ∷ insert x s ] ]

abbrev pub union : List ℕ → List ℕ → List ℕ
union [] t = t
union (x ∷ s) t = insert x (union s t)

abbrev pub keep : (ℕ → Bool) → List ℕ → List ℕ
keep q [] = []
keep q (x ∷ s) = elim (q x) [ true ↦ x ∷ keep q s | false ↦ keep q s ]

abbrev pub combine : Combination → List ℕ → List ℕ → List ℕ
combine Cup s t = union s t
combine Cap s t = keep (member_of t) s
combine Without s t = keep (λ x. not (member_of t x)) s

-- n numbers: from, from + step, ..
abbrev pub steps : ℕ → ℕ → ℕ → List ℕ
steps zero from step = []
steps (suc n) from step = from ∷ steps n (from + step) step

-- how many elements {x, y .. z} has, where x is below y
abbrev pub range_size : ℕ → ℕ → ℕ → ℕ
range_size x y z = if ltb z x then 0 otherwise suc ((z - x) / (y - x))

-- the last element, after x
abbrev pub last : ℕ → List ℕ → ℕ
last x [] = x
last x (y ∷ s) = last y s
