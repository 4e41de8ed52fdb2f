-- Each bit of `ripple` is what a step of a sweep gives: g, or p and the value one position later. For any width.
use Rattle.std.specs.Prelude.{◌≡◌, ℕ, zero, suc, ◌+◌, ◌/◌, ◌%◌, ◌^◌, ◌<◌, ◌&&◌, ◌||◌, ◌==◌, bit_and, bit_or, bit_xor, nat_eq, refl}
use Rattle.std.proofs.Common.{sym, ◌∙◌, arith, mod-eq_of_lt, div-one, pow-suc, mul_comm}
use Rattle.std.proofs.Math.Path.{ap, ap₂}
use Rattle.std.proofs.Math.Nat.{div-div-eq-div-mul, mod-add-mod}
use Rattle.std.proofs.lemmas.Nat.{and_shr, xor_shr, and_mod, xor_mod, or_lt, and_le_l}
use Rattle.std.specs.Int.Bits.{or_shr, or_mod, and_lt}
use Rattle.bits.specs.Bits.{bit_of}
use Rattle.bits.specs.Ripple.{ripple, before}

-- three digits, case by case
digits : (P : ℕ → ℕ → ℕ → Type 0) → P 0 0 0 → P 0 0 1 → P 0 1 0 → P 0 1 1 → P 1 0 0 → P 1 0 1 → P 1 1 0 → P 1 1 1 → (a b c : ℕ) → a < 2 → b < 2 → c < 2 → P a b c
digits P p0 p1 p2 p3 p4 p5 p6 p7 zero zero zero h l m = p0
digits P p0 p1 p2 p3 p4 p5 p6 p7 zero zero (suc zero) h l m = p1
digits P p0 p1 p2 p3 p4 p5 p6 p7 zero (suc zero) zero h l m = p2
digits P p0 p1 p2 p3 p4 p5 p6 p7 zero (suc zero) (suc zero) h l m = p3
digits P p0 p1 p2 p3 p4 p5 p6 p7 (suc zero) zero zero h l m = p4
digits P p0 p1 p2 p3 p4 p5 p6 p7 (suc zero) zero (suc zero) h l m = p5
digits P p0 p1 p2 p3 p4 p5 p6 p7 (suc zero) (suc zero) zero h l m = p6
digits P p0 p1 p2 p3 p4 p5 p6 p7 (suc zero) (suc zero) (suc zero) h l m = p7
digits P p0 p1 p2 p3 p4 p5 p6 p7 (suc (suc a)) b c h l m = absurd (omega arith)
digits P p0 p1 p2 p3 p4 p5 p6 p7 zero (suc (suc b)) c h l m = absurd (omega arith)
digits P p0 p1 p2 p3 p4 p5 p6 p7 (suc zero) (suc (suc b)) c h l m = absurd (omega arith)
digits P p0 p1 p2 p3 p4 p5 p6 p7 zero zero (suc (suc c)) h l m = absurd (omega arith)
digits P p0 p1 p2 p3 p4 p5 p6 p7 zero (suc zero) (suc (suc c)) h l m = absurd (omega arith)
digits P p0 p1 p2 p3 p4 p5 p6 p7 (suc zero) zero (suc (suc c)) h l m = absurd (omega arith)
digits P p0 p1 p2 p3 p4 p5 p6 p7 (suc zero) (suc zero) (suc (suc c)) h l m = absurd (omega arith)

-- the value at the lowest bit
abbrev carried : ℕ → ℕ → ℕ → ℕ
carried p g c = bit_or (g % 2) (bit_and (p % 2) c)

digit_carry : (p g c : ℕ) → p < 2 → g < 2 → c < 2 → (bit_or p g + g + c) / 2 ≡ bit_or g (bit_and p c)
digit_carry = digits (λ p g c. (bit_or p g + g + c) / 2 ≡ bit_or g (bit_and p c)) refl refl refl refl refl refl refl refl

digit_low : (p g c : ℕ) → p < 2 → g < 2 → c < 2 → bit_or g (bit_and p (bit_xor (bit_xor ((bit_or p g + g + c) % 2) (bit_or p g)) g)) ≡ bit_or g (bit_and p c)
digit_low = digits (λ p g c. bit_or g (bit_and p (bit_xor (bit_xor ((bit_or p g + g + c) % 2) (bit_or p g)) g)) ≡ bit_or g (bit_and p c)) refl refl refl refl refl refl refl refl

digit-bool : (p g c : ℕ) → p < 2 → g < 2 → c < 2 → (bit_or g (bit_and p c) == 1) ≡ (g == 1 || (p == 1 && c == 1))
digit-bool = digits (λ p g c. (bit_or g (bit_and p c) == 1) ≡ (g == 1 || (p == 1 && c == 1))) refl refl refl refl refl refl refl refl

digit_lt : (p g c : ℕ) → p < 2 → g < 2 → c < 2 → bit_or g (bit_and p c) < 2
digit_lt p g c h l m = or_lt 1 g (bit_and p c) l (and_lt 1 p c h m)

module _ (p g c : ℕ) (h : c < 2) where
  p0 : p % 2 < 2
  p0 = omega arith

  g0 : g % 2 < 2
  g0 = omega arith

  -- the sum, halved
  sum_half : (bit_or p g + g + c) / 2 ≡ bit_or (p / 2) (g / 2) + g / 2 + carried p g c
  sum_half =
      let x : ℕ = bit_or p g in
      let hi : x / 2 ≡ bit_or (p / 2) (g / 2) = or_shr p g 1 in
      let lo : x % 2 ≡ bit_or (p % 2) (g % 2) = or_mod p g 1 in
      let d = digit_carry (p % 2) (g % 2) c p0 g0 h in
      let e : (x + g + c) / 2 ≡ x / 2 + g / 2 + (x % 2 + g % 2 + c) / 2 = omega arith in
      e ∙ ap₂ (λ u v. u + g / 2 + v) hi (ap (λ u. (u + g % 2 + c) / 2) lo ∙ d)

  sum_low : (bit_or p g + g + c) % 2 ≡ (bit_or (p % 2) (g % 2) + g % 2 + c) % 2
  sum_low =
      let x : ℕ = bit_or p g in
      let lo : x % 2 ≡ bit_or (p % 2) (g % 2) = or_mod p g 1 in
      let e : (x + g + c) % 2 ≡ (x % 2 + g % 2 + c) % 2 = omega arith in e ∙ ap (λ u. (u + g % 2 + c) % 2) lo

  ripple_half : ripple p g c / 2 ≡ ripple (p / 2) (g / 2) (carried p g c)
  unfolding ripple
  ripple_half =
      let x : ℕ = bit_or p g in
      let t : ℕ = x + g + c in
      or_shr g (bit_and p (bit_xor (bit_xor t x) g)) 1
      ∙ ap (bit_or (g / 2))
      (and_shr p (bit_xor (bit_xor t x) g) 1 ∙ ap (bit_and (p / 2)) (xor_shr (bit_xor t x) g 1 ∙ ap (λ z. bit_xor z (g / 2)) (xor_shr t x 1 ∙ ap₂ bit_xor sum_half (or_shr p g 1))))

  ripple-low : ripple p g c % 2 ≡ carried p g c
  unfolding ripple
  ripple-low =
      let x : ℕ = bit_or p g in
      let t : ℕ = x + g + c in
      or_mod g (bit_and p (bit_xor (bit_xor t x) g)) 1
      ∙ ap (bit_or (g % 2))
      (and_mod p (bit_xor (bit_xor t x) g) 1 ∙ ap (bit_and (p % 2)) (xor_mod (bit_xor t x) g 1 ∙ ap (λ z. bit_xor z (g % 2)) (xor_mod t x 1 ∙ ap₂ bit_xor sum_low (or_mod p g 1))))
      ∙ digit_low (p % 2) (g % 2) c p0 g0 h

pub bit-suc : (x s : ℕ) → bit_of x (suc s) ≡ bit_of (x / 2) s
bit-suc x s = ap (λ z. nat_eq (z % 2) 1) (ap (λ z. x / z) (pow-suc 2 s ∙ mul_comm (2 ^ s) 2) ∙ sym (div-div-eq-div-mul x 2 (2 ^ s)))

bit-zero : (x : ℕ) → bit_of x 0 ≡ (x % 2 == 1)
bit-zero x = ap (λ z. nat_eq (z % 2) 1) (div-one x)

-- each bit is the step at its position
pub ripple-bit : (s p g c : ℕ) → c < 2 → bit_of (ripple p g c) s ≡ (bit_of g s || (bit_of p s && before c (ripple p g c) s))
ripple-bit zero p g c h =
    bit-zero (ripple p g c) ∙ ap (λ z. nat_eq z 1) (ripple-low p g c h) ∙ digit-bool (p % 2) (g % 2) c (p0 p g c h) (g0 p g c h) h
    ∙ ap₂ (λ x y. x || (y && c == 1)) (sym (bit-zero g)) (sym (bit-zero p))
ripple-bit (suc s) p g c h =
    let d : ℕ = carried p g c in
    let l : d < 2 = digit_lt (p % 2) (g % 2) c (p0 p g c h) (g0 p g c h) h in
    let r : ripple p g c / 2 ≡ ripple (p / 2) (g / 2) d = ripple_half p g c h in
    bit-suc (ripple p g c) s ∙ ap (λ z. bit_of z s) r ∙ ripple-bit s (p / 2) (g / 2) d l
    ∙ ap₂ (λ x y. x || (y && before d (ripple (p / 2) (g / 2) d) s)) (sym (bit-suc g s)) (sym (bit-suc p s))
    ∙ ap (λ z. bit_of g (suc s) || (bit_of p (suc s) && z)) (later s)
  where
    later : (s : ℕ) → before (carried p g c) (ripple (p / 2) (g / 2) (carried p g c)) s ≡ bit_of (ripple p g c) s
    later zero = sym (bit-zero (ripple p g c) ∙ ap (λ z. nat_eq z 1) (ripple-low p g c h))
    later (suc s) = sym (bit-suc (ripple p g c) s ∙ ap (λ z. bit_of z s) (ripple_half p g c h))

-- numbers of k bits, the sum kept to k bits
pub ripple_wraps : (k p g c : ℕ) → p < 2 ^ k → g < 2 ^ k
    → bit_or g (bit_and p (bit_xor (bit_xor ((bit_or p g + g + c) % 2 ^ k) (bit_or p g)) g)) ≡ ripple p g c
unfolding ripple
ripple_wraps k p g c hp hg =
    let x : ℕ = bit_or p g in
    let t : ℕ = x + g + c in
    let hx : x < 2 ^ k = or_lt k p g hp hg in
    let y : bit_xor (bit_xor t x) g % 2 ^ k ≡ bit_xor (bit_xor (t % 2 ^ k) x) g =
    xor_mod (bit_xor t x) g k ∙ ap₂ bit_xor (xor_mod t x k ∙ ap (bit_xor (t % 2 ^ k)) (mod-eq_of_lt hx)) (mod-eq_of_lt hg) in
    let a : bit_and p (bit_xor (bit_xor t x) g) ≡ bit_and p (bit_xor (bit_xor (t % 2 ^ k) x) g) =
    sym (mod-eq_of_lt (small k p (bit_xor (bit_xor t x) g) hp)) ∙ and_mod p (bit_xor (bit_xor t x) g) k ∙ ap₂ bit_and (mod-eq_of_lt hp) y in
    ap (bit_or g) (sym a)
  where
    small : (k p y : ℕ) → p < 2 ^ k → bit_and p y < 2 ^ k
    small k p y h = let l = and_le_l p y in omega arith

-- the sum in two steps, each kept to k bits
pub ripple-sum : (k p g c s t : ℕ) → p < 2 ^ k → g < 2 ^ k → s ≡ (bit_or p g + g) % 2 ^ k → t ≡ (s + c) % 2 ^ k
    → bit_or g (bit_and p (bit_xor (bit_xor t (bit_or p g)) g)) ≡ ripple p g c
ripple-sum k p g c s t hp hg es et =
    ap (λ z. bit_or g (bit_and p (bit_xor (bit_xor z (bit_or p g)) g))) (et ∙ ap (λ z. (z + c) % 2 ^ k) es ∙ mod-add-mod (bit_or p g + g) (2 ^ k) c) ∙ ripple_wraps k p g c hp hg
