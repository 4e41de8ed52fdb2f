-- Storing a list of words from a place on; zeros.
use Rattle.std.specs.Prelude.{ℕ, zero, suc, ◌+◌, ◌<◌, ◌≡◌, refl, List, [], ◌∷◌, ◌++◌, length, get_or, set, replicate}
use Rattle.std.proofs.Common.{ap, ◌∙◌, get_or-set_other, add-zero, arith}
use Rattle.std.proofs.lemmas.List.Edits.{sets}

pub sets-append : (l : List ℕ) (i : ℕ) (us vs : List ℕ) → sets l i (us ++ vs) ≡ sets (sets l i us) (i + length us) vs
sets-append l i [] vs = rw add-zero
sets-append l i (u ∷ us) vs = sets-append (set l i u) (suc i) us vs ∙ ap (λ (k : ℕ). sets (sets (set l i u) (suc i) us) k vs) (omega arith)

pub get_or-sets-below : (l : List ℕ) (i : ℕ) (vs : List ℕ) (k : ℕ) → k < i → get_or (sets l i vs) k 0 ≡ get_or l k 0
get_or-sets-below l i [] k h = refl
get_or-sets-below l i (v ∷ vs) k h = get_or-sets-below (set l i v) (suc i) vs k (omega arith) ∙ get_or-set_other l i k v 0 (λ e. omega arith)

-- each of so many zeros is 0, and what is read past them
pub get_or_zeros : (n k : ℕ) → get_or (replicate {A = ℕ} n 0) k 0 ≡ 0
get_or_zeros zero k = refl
get_or_zeros (suc n) zero = refl
get_or_zeros (suc n) (suc k) = get_or_zeros n k
