-- The place of the element before which n stand, if there is one; so 8 is refused at the 257th name, and 10 at the 17th word.
use Rattle.std.specs.Prelude.{ℕ, zero, suc, ◌+◌, ◌≤◌, ◌≡◌, refl, List, [], ◌∷◌, length, drop}
use Rattle.std.proofs.Common.{sym, subst, inl, inr, ⊎_elim, arith}
use Rattle.language.specs.Limits.{max_names}
use Rattle.language.specs.Tokens.{Token}
use Rattle.language.specs.Tree.{Spec}
use Rattle.language.specs.Places.{all_lines}
use Rattle.language.specs.Names.{declares, over, place_of_first, too_many}
use Rattle.refusal_laws.specs.Refusals.{Following, FirstPlace, joined, text_lines, brings, SurplusAt}
use Rattle.refusal_laws.proofs.Places.{nowhere, at, same-places}
use Rattle.refusal_laws.proofs.LineLaws.{names_are}

abbrev After : ℕ → List Token → List Token → ℕ → Type 0
After n before l p = Following (λ ts t. (length ts ≡ n) × (p ≡ t.at)) before l

-- more than n stand before each
past : (n : ℕ) (before l : List Token) (p : ℕ) → suc n ≤ length before → ¬ After n before l p
past n before [] p h s = s
past n before (t ∷ l) p h s = ⊎_elim (λ e. let k = e.0 in omega arith) (past n (t ∷ before) l p (omega arith)) s

after_first_lem : (n : ℕ) (before l : List Token) (k : ℕ) → length before + k ≡ n → FirstPlace (After n before l) (place_of_first (drop k l))
after_first_lem n before [] zero e = nowhere (λ p h. h)
after_first_lem n before [] (suc k) e = nowhere (λ p h. h)
after_first_lem n before (t ∷ l) zero e = at t.at (inl (omega arith, refl)) (λ q s. ⊎_elim (λ h. let z = h.1 in omega arith) (λ s. absurd (past n (t ∷ before) l q (omega arith) s)) s)
after_first_lem n before (t ∷ l) (suc k) e =
    same-places (place_of_first (drop k l)) (λ p. (inr, λ s. ⊎_elim (λ h. let z = h.0 in absurd (omega arith)) (λ s. s) s)) (after_first_lem n (t ∷ before) l k (omega arith))

pub nth-first : (n : ℕ) (l : List Token) → FirstPlace (After n [] l) (place_of_first (drop n l))
nth-first n l = after_first_lem n [] l n (omega arith)

-- no more than n stand there
pub at_most : (n : ℕ) (before l : List Token) → ((p : ℕ) → ¬ After n before l p) → length before ≤ n → length before + length l ≤ n
at_most n before [] f h = omega arith
at_most n before (t ∷ l) f h =
    let other : ¬ (length before ≡ n) = λ e. f t.at (inl (e, refl)) in
    let more = at_most n (t ∷ before) l (λ p s. f p (inr s)) (omega arith) in
    omega arith

-- 8
surplus : (n : ℕ) (ns ms : List Token) → ms ≡ ns → FirstPlace (After n [] ns) (place_of_first (drop n ms))
surplus n ns ms e = subst (λ (l : List Token). FirstPlace (After n [] ns) (place_of_first (drop n l))) (sym e) (nth-first n ns)

pub surplus_is-first : (x : Spec) → FirstPlace (SurplusAt x) (too_many x)
surplus_is-first x = surplus max_names (joined brings (text_lines x)) (over declares (all_lines x)) (names_are x)
