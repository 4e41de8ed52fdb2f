-- Numbers of names as indices of tables.
use Rattle.std.specs.Prelude.{ℕ, zero, suc, ◌≤◌, ◌<◌, List, [], ◌∷◌, ◌≡◌, get_or}
use Rattle.std.proofs.Common.{arith}
use Rattle.spellings.specs.Interned.{top}

pub below_top : (ids : List ℕ) (j : ℕ) → get_or ids j 0 < top ids
unfolding top
below_top [] j = omega arith
below_top (x ∷ xs) zero = omega arith
below_top (x ∷ xs) (suc j) = let l = below_top xs j in omega arith

pub inside-top : (ids : List ℕ) (j : ℕ) {id n : ℕ} → top ids ≤ n → id ≡ get_or ids j 0 → id < n
inside-top ids j r e = let l = below_top ids j in omega arith

pub top_least : (ids : List ℕ) (n : ℕ) → ((j : ℕ) → get_or ids j 0 < n) → top ids ≤ n
unfolding top
top_least [] n h = let l = h 0 in omega arith
top_least (x ∷ xs) n h = let a = h 0 in let b = top_least xs n (λ j. h (suc j)) in omega arith
