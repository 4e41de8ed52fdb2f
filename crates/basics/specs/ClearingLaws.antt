-- What clearing the first bytes of a buffer makes of each byte.
use Rattle.std.specs.Prelude.{ℕ, zero, suc, ◌≤◌, ◌<◌, ◌≡◌, refl, List, [], ◌∷◌, length, get_or}
use Rattle.std.proofs.Common.{ap, arith}
use Rattle.basics.specs.Clearing.{cleared}

pub length-cleared : (n : ℕ) (w : List ℕ) → length (cleared n w) ≡ length w
unfolding cleared
length-cleared zero w = refl
length-cleared (suc n) [] = refl
length-cleared (suc n) (b ∷ w) = ap suc (length-cleared n w)

pub get_or-cleared-below : (n : ℕ) (w : List ℕ) (i d : ℕ) → n ≤ length w → i < n → get_or (cleared n w) i d ≡ 0
unfolding cleared
get_or-cleared-below zero w i d l m = absurd (omega arith)
get_or-cleared-below (suc n) [] i d l m = absurd (omega arith)
get_or-cleared-below (suc n) (b ∷ w) zero d l m = refl
get_or-cleared-below (suc n) (b ∷ w) (suc i) d l m = get_or-cleared-below n w i d (omega arith) (omega arith)

pub get_or-cleared-above : (n : ℕ) (w : List ℕ) (i d : ℕ) → n ≤ i → get_or (cleared n w) i d ≡ get_or w i d
unfolding cleared
get_or-cleared-above zero w i d m = refl
get_or-cleared-above (suc n) [] i d m = refl
get_or-cleared-above (suc n) (b ∷ w) zero d m = absurd (omega arith)
get_or-cleared-above (suc n) (b ∷ w) (suc i) d m = get_or-cleared-above n w i d (omega arith)
