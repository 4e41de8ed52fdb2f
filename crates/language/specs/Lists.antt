-- What is said of lists: of every element, and of numbers that ascend.
use Rattle.std.specs.Prelude.{ℕ, suc, ◌≤◌, List, [], ◌∷◌}
use Rattle.language.specs.Limits.{max_number}

-- Q of every element
abbrev pub All : {A : Type 0} → (A → Type 0) → List A → Type 0
All Q [] = Unit {0}
All Q (a ∷ l) = Q a × All Q l

-- ascending, the elements from low to high
abbrev pub Ascending : (low high : ℕ) → List ℕ → Type 0
Ascending low high [] = Unit {0}
Ascending low high (x ∷ s) = (low ≤ x) × (x ≤ high) × Ascending (suc x) high s

-- as sets are
abbrev pub Ordered : List ℕ → Type 0
Ordered s = Ascending 0 max_number s
