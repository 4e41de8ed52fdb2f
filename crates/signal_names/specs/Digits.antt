-- The digits of a number below a thousand.
use Rattle.std.specs.Prelude.{ℕ, suc, ◌+◌, ◌-◌, ◌/◌, ◌%◌, ◌<◌, ◌≤◌, ◌≡◌, List, [], ◌∷◌, ◌++◌, ltb}
use Rattle.std.proofs.Common.{ap, ◌∙◌, arith, lt-ltb, le-ltb}
use Rattle.language.proofs.Laws.Basics.Tests.{pick, leave}
use Rattle.basic.specs.Spelling.{digits_of}
use Rattle.signal_names.specs.Runs.{puts_after}
use Rattle.signal_names.specs.Promise.{Puts}

pub one-digit : (f n : ℕ) → n < 10 → digits_of (suc f) n ≡ (48 + n) ∷ []
unfolding digits_of
one-digit f n h = pick (ltb n 10) _ _ (lt-ltb n 10 h)

more-digits : (f n : ℕ) → 10 ≤ n → digits_of (suc f) n ≡ digits_of f (n / 10) ++ ((48 + n % 10) ∷ [])
unfolding digits_of
more-digits f n h = leave (ltb n 10) _ _ (le-ltb n 10 h)

pub two_digits : (f n : ℕ) → 10 ≤ n → n < 100 → digits_of (suc (suc f)) n ≡ (48 + n / 10) ∷ (48 + n % 10) ∷ []
two_digits f n h l = more-digits (suc f) n h ∙ ap (λ (s : List ℕ). s ++ ((48 + n % 10) ∷ [])) (one-digit f (n / 10) (omega arith))

pub three-digits : (f n : ℕ) → 100 ≤ n → n < 1000 → digits_of (suc (suc (suc f))) n ≡ (48 + n / 10 / 10) ∷ (48 + n / 10 % 10) ∷ (48 + n % 10) ∷ []
three-digits f n h l = more-digits (suc (suc f)) n (omega arith) ∙ ap (λ (s : List ℕ). s ++ ((48 + n % 10) ∷ [])) (two_digits f (n / 10) (omega arith) (omega arith))

-- the digits of an index, each written after the other
module _ {out o1 : List ℕ} {at m : ℕ} (n : ℕ) where
  pub put_one : n < 10 → Puts ((48 + n) ∷ []) out o1 at m → Puts (digits_of (suc n) n) out o1 at m
  put_one h p = rw (one-digit n n h) p

  module _ {o2 : List ℕ} {r : ℕ} where
    pub put_two : 10 ≤ n → n < 100 → Puts ((48 + n / 10) ∷ []) out o1 at m → Puts ((48 + n % 10) ∷ []) o1 o2 m r → Puts (digits_of (suc n) n) out o2 at r
    put_two h l p q = let e : suc n ≡ suc (suc (n - 1)) = omega arith in rw (e, two_digits (n - 1) n h l) (puts_after p q)

    pub put_three : {o3 : List ℕ} {s : ℕ} → 100 ≤ n → n < 1000 → Puts ((48 + n / 10 / 10) ∷ []) out o1 at m → Puts ((48 + n / 10 % 10) ∷ []) o1 o2 m r → Puts ((48 + n % 10) ∷ []) o2 o3 r s
        → Puts (digits_of (suc n) n) out o3 at s
    put_three h l p q t = let e : suc n ≡ suc (suc (suc (n - 2))) = omega arith in rw (e, three-digits (n - 2) n h l) (puts_after p (puts_after q t))
