-- Operations on numbers that act on each bit, for any width.
use Rattle.std.specs.Prelude.{◌≡◌, ℕ, zero, suc, ◌+◌, ◌-◌, ◌*◌, ◌/◌, ◌%◌, ◌^◌, ◌<◌, false, not, ◌&&◌, ◌||◌, ◌==◌, bit_and, bit_or, bit_xor, nat_eq, refl}
use Rattle.std.proofs.Common.{sym, ap, ◌∙◌, arith, mod-lt, div-add-mod', div-lt_iff_lt-mul, eq-eqb, ne_eqb, pow_pos, pow-add}
use Rattle.std.specs.Bool.{beq}
use Rattle.std.proofs.Math.Decide.{ℕ_discrete}
use Rattle.std.proofs.Math.Nat.{zero-div, mul-add-div_right, mul-add-mod_self_right}
use Rattle.std.proofs.Math.Arith.{digits_div}
use Rattle.std.proofs.lemmas.Nat.{and_shr, or_shr, xor_shr, and_mod, or_mod, xor_mod}
use Rattle.bits.specs.Bits.{bit_of}

pairs : (P : ℕ → ℕ → Type 0) → P 0 0 → P 0 1 → P 1 0 → P 1 1 → (a b : ℕ) → a < 2 → b < 2 → P a b
pairs P p q r s zero zero h l = p
pairs P p q r s zero (suc zero) h l = q
pairs P p q r s (suc zero) zero h l = r
pairs P p q r s (suc zero) (suc zero) h l = s
pairs P p q r s (suc (suc a)) b h l = absurd (omega arith)
pairs P p q r s zero (suc (suc b)) h l = absurd (omega arith)
pairs P p q r s (suc zero) (suc (suc b)) h l = absurd (omega arith)

two : (x : ℕ) → x % 2 < 2
two x = omega arith

pub and_acts : (x y s : ℕ) → bit_of (bit_and x y) s ≡ (bit_of x s && bit_of y s)
and_acts x y s =
    ap (λ z. nat_eq (z % 2) 1) (and_shr x y s) ∙ ap (λ z. nat_eq z 1) (and_mod (x / 2 ^ s) (y / 2 ^ s) 1)
    ∙ pairs (λ a b. (bit_and a b == 1) ≡ (a == 1 && b == 1)) refl refl refl refl (x / 2 ^ s % 2) (y / 2 ^ s % 2) (two _) (two _)

pub or_acts : (x y s : ℕ) → bit_of (bit_or x y) s ≡ (bit_of x s || bit_of y s)
or_acts x y s =
    ap (λ z. nat_eq (z % 2) 1) (or_shr x y s) ∙ ap (λ z. nat_eq z 1) (or_mod (x / 2 ^ s) (y / 2 ^ s) 1)
    ∙ pairs (λ a b. (bit_or a b == 1) ≡ (a == 1 || b == 1)) refl refl refl refl (x / 2 ^ s % 2) (y / 2 ^ s % 2) (two _) (two _)

pub xor_acts : (x y s : ℕ) → bit_of (bit_xor x y) s ≡ not (beq (bit_of x s) (bit_of y s))
xor_acts x y s =
    ap (λ z. nat_eq (z % 2) 1) (xor_shr x y s) ∙ ap (λ z. nat_eq z 1) (xor_mod (x / 2 ^ s) (y / 2 ^ s) 1)
    ∙ pairs (λ a b. (bit_xor a b == 1) ≡ not (beq (a == 1) (b == 1))) refl refl refl refl (x / 2 ^ s % 2) (y / 2 ^ s % 2) (two _) (two _)

pub zero_bit : (s : ℕ) → bit_of 0 s ≡ false
zero_bit s = ap (λ z. nat_eq (z % 2) 1) (zero-div (2 ^ s))

-- all ones but x, for any width
pub flip-bit : (w x s : ℕ) → x < 2 ^ w → s < w → bit_of (2 ^ w - 1 - x) s ≡ not (bit_of x s)
flip-bit w x s l h =
    let k : ℕ = w - s - 1 in
    let p : ℕ = 2 ^ s in
    let q : ℕ = x / p in
    let r : ℕ = x % p in
    let pos : 0 < p = pow_pos s in
    let rl : r < p = mod-lt x pos in
    let ew : 2 ^ w ≡ 2 * 2 ^ k * p = whole k (omega arith) in
    let ql : q < 2 * 2 ^ k = (div-lt_iff_lt-mul pos).1 (rw ew at l) in
    let m : ℕ = 2 * 2 ^ k - 1 - q in
    let em : 2 * 2 ^ k ≡ m + 1 + q = omega arith in
    let sum : 2 ^ w - 1 - x ≡ m * p + (p - 1 - r) = apart (2 ^ w) x (m * p) (q * p) p r (ew ∙ ap (λ z. z * p) em ∙ omega arith) (sym (div-add-mod' x p)) rl in
    let high : (2 ^ w - 1 - x) / p ≡ m = ap (λ z. z / p) sum ∙ digits_div m (omega arith) in
    ap (λ z. nat_eq (z % 2) 1) high ∙ turn (2 ^ k) q m em
  where
    whole : (k : ℕ) → w ≡ 1 + k + s → 2 ^ w ≡ 2 * 2 ^ k * 2 ^ s
    whole k e = ap (λ z. 2 ^ z) e ∙ pow-add 2 (1 + k) s ∙ ap (λ z. z * 2 ^ s) (pow-add 2 1 k)

    apart : (t x a b p r : ℕ) → t ≡ a + p + b → x ≡ b + r → r < p → t - 1 - x ≡ a + (p - 1 - r)
    apart t x a b p r e d h = omega arith

    turn : (e q m : ℕ) → 2 * e ≡ m + 1 + q → (m % 2 == 1) ≡ not (q % 2 == 1)
    turn e q m h = pick (ℕ_discrete (q % 2) 1)
      where
        pick : Dec (q % 2 ≡ 1) → (m % 2 == 1) ≡ not (q % 2 == 1)
        pick (yes d) = ne_eqb (m % 2) 1 (λ c. omega arith) ∙ sym (ap not (eq-eqb (q % 2) 1 d))
        pick (no d) = let c : m % 2 ≡ 1 = omega arith in eq-eqb (m % 2) 1 c ∙ sym (ap not (ne_eqb (q % 2) 1 d))

-- the k low bits
pub bit-under : (k x s : ℕ) → s < k → bit_of (x % 2 ^ k) s ≡ bit_of x s
bit-under k x s h =
    let r : ℕ = k - s - 1 in
    let e : 2 ^ k ≡ 2 ^ r * 2 * 2 ^ s = let m : k ≡ r + 1 + s = omega arith in ap (λ z. 2 ^ z) m ∙ pow-add 2 (r + 1) s ∙ ap (λ z. z * 2 ^ s) (pow-add 2 r 1) in
    let q : ℕ = x / 2 ^ k in
    let d : x ≡ q * 2 ^ r * 2 * 2 ^ s + x % 2 ^ k = sym (div-add-mod' x (2 ^ k)) ∙ ap (λ z. z + x % 2 ^ k) (ap (λ z. q * z) e ∙ omega arith) in
    let f : x / 2 ^ s ≡ q * 2 ^ r * 2 + x % 2 ^ k / 2 ^ s = ap (λ z. z / 2 ^ s) d ∙ mul-add-div_right (pow_pos s) (q * 2 ^ r * 2) (x % 2 ^ k) in
    sym (ap (λ z. nat_eq (z % 2) 1) f ∙ ap (λ z. nat_eq z 1) (mul-add-mod_self_right (q * 2 ^ r) 2 (x % 2 ^ k / 2 ^ s)))
