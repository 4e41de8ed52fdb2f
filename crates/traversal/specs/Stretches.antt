-- Tables by kind that have one value from one kind up to another, which antt computes.
use Rattle.std.specs.Prelude.{ℕ, zero, suc, ◌+◌, ◌-◌, ◌≤◌, ◌<◌, List, Bool, true, false, ◌&&◌, ◌≡◌, refl, eqb, get_or}
use Rattle.std.proofs.Common.{sym, ap, ◌∙◌, arith, eqb-true}
use Rattle.std.proofs.lemmas.Bool.{eqb-false}
use Rattle.language.proofs.Laws.Basics.Tests.{and_left, and_right}

-- does the table have the value at n places from a on?
abbrev pub steady : List ℕ → ℕ → ℕ → ℕ → Bool
steady t v a zero = true
steady t v a (suc n) = eqb (get_or t a 0) v && steady t v (suc a) n

steady-at : (t : List ℕ) (v a n k : ℕ) → steady t v a n ≡ true → a ≤ k → k < a + n → get_or t k 0 ≡ v
steady-at t v a zero k h l u = absurd (omega arith)
steady-at t v a (suc n) k h l u =
    go (eqb k a) refl (λ past. steady-at t v (suc a) n k (and_right (eqb (get_or t a 0) v) (steady t v (suc a) n) h) (omega (arith, past)) (omega arith))
  where
    go : (b : Bool) → eqb k a ≡ b → ((k ≡ a → ⊥) → get_or t k 0 ≡ v) → get_or t k 0 ≡ v
    go true e later = ap (λ j. get_or t j 0) (eqb-true k a e) ∙ eqb-true (get_or t a 0) v (and_left (eqb (get_or t a 0) v) (steady t v (suc a) n) h)
    go false e later = later (eqb-false k a e)

-- from a up to b
pub stretch : (t : List ℕ) {v a b k : ℕ} → a ≤ k → k < b → steady t v a (b - a) ≡ true → v ≡ get_or t k 0
stretch t {v} {a} {b} {k} l u h = sym (steady-at t v a (b - a) k h l (omega arith))
