-- Laws of bits: a bit that was put, the others, and numbers by their bits. On numbers they hold for any width.
use Rattle.std.specs.Prelude.{◌≡◌, ℕ, zero, suc, ◌+◌, ◌-◌, ◌*◌, ◌/◌, ◌%◌, ◌^◌, ◌<◌, ◌≤◌, Bool, true, false, ◌≢◌, List, length, ◌==◌, nat_eq, slice_index, refl}
use Rattle.std.specs.Int.{from_bool}
use Rattle.std.proofs.Common.{sym, ap, ◌∙◌, div-add-mod', div-lt_iff_lt-mul, mod-lt, div-one, mul_comm, pow-suc, add-one, arith, pow_pos, pow-add, pow_mono, length-set, get_or-set_same, get_or-set_other, eq-eqb, ne_eqb, eqb-true}
use Rattle.std.proofs.Math.Nat.{div-div-eq-div-mul, mul-add-div_right, zero-div, mul-add-mod_self_right}
use Rattle.std.proofs.Math.Decide.{dec_lt, ℕ_discrete}
use Rattle.std.proofs.Math.Arith.{digits_div, digits_mod, digits_lt}
use Rattle.std.proofs.lemmas.Bool.{eqb-false}
use Rattle.bits.specs.Bits.{Values, digit, bit_of, bit_at, number, with_bit, put_bit}

pub digit_lt : (v : Bool) → digit v < 2
digit_lt true = omega arith
digit_lt false = omega arith

-- a bit converted to a number
pub from_bool_digit : (v : Bool) → from_bool v ≡ digit v
from_bool_digit true = refl
from_bool_digit false = refl

two_pos : (s : ℕ) → 0 < 2 ^ s
two_pos s = pow_pos s

with-high : (x s : ℕ) (v : Bool) → with_bit x s v / 2 ^ s ≡ x / 2 ^ s / 2 * 2 + digit v
with-high x s v = digits_div (x / 2 ^ s / 2 * 2 + digit v) (mod-lt x (two_pos s))

digit-bit : (y : ℕ) (v : Bool) → ((y * 2 + digit v) % 2 == 1) ≡ v
digit-bit y true = ap (λ z. nat_eq z 1) (mul-add-mod_self_right y 2 1)
digit-bit y false = ap (λ z. nat_eq z 1) (mul-add-mod_self_right y 2 0)

pub bit-same : (x s : ℕ) (v : Bool) → bit_of (with_bit x s v) s ≡ v
bit-same x s v = ap (λ z. nat_eq (z % 2) 1) (with-high x s v) ∙ digit-bit (x / 2 ^ s / 2) v

-- above bit s
above : (x s r : ℕ) (v : Bool) → with_bit x s v / 2 ^ (s + 1 + r) ≡ x / 2 ^ (s + 1 + r)
above x s r v =
    let e : (y : ℕ) → y / 2 ^ (s + 1 + r) ≡ y / 2 ^ s / 2 / 2 ^ r =
    λ y. ap (λ z. y / z) (pow-add 2 (s + 1) r ∙ ap (λ z. z * 2 ^ r) (pow-add 2 s 1)) ∙ sym (div-div-eq-div-mul y (2 ^ s * 2) (2 ^ r)) ∙ ap (λ z. z / 2 ^ r) (sym (div-div-eq-div-mul y (2 ^ s) 2)) in
    e (with_bit x s v) ∙ ap (λ z. z / 2 / 2 ^ r) (with-high x s v) ∙ ap (λ z. z / 2 ^ r) (digits_div (x / 2 ^ s / 2) (digit_lt v)) ∙ sym (e x)

-- below bit s: a multiple of 2 ^ s makes no difference
under : (h t r l : ℕ) → (h * 2 ^ (t + 1 + r) + l) / 2 ^ t % 2 ≡ l / 2 ^ t % 2
under h t r l =
    let e : h * 2 ^ (t + 1 + r) ≡ h * 2 ^ r * 2 * 2 ^ t = ap (λ z. h * z) (pow-add 2 (t + 1) r ∙ ap (λ z. z * 2 ^ r) (pow-add 2 t 1)) ∙ omega arith in
    ap (λ z. (z + l) / 2 ^ t % 2) e ∙ ap (λ z. z % 2) (mul-add-div_right (two_pos t) (h * 2 ^ r * 2) l) ∙ mul-add-mod_self_right (h * 2 ^ r) 2 (l / 2 ^ t)

below : (x t r : ℕ) (v : Bool) → with_bit x (t + 1 + r) v / 2 ^ t % 2 ≡ x / 2 ^ t % 2
below x t r v =
    let s : ℕ = t + 1 + r in
    under (x / 2 ^ s / 2 * 2 + digit v) t r (x % 2 ^ s) ∙ sym (under (x / 2 ^ s) t r (x % 2 ^ s)) ∙ ap (λ z. z / 2 ^ t % 2) (div-add-mod' x (2 ^ s))

pub bit_other : (x s t : ℕ) (v : Bool) → t ≢ s → bit_of (with_bit x s v) t ≡ bit_of x t
bit_other x s t v h = go (dec_lt s t)
  where
    go : Dec (s < t) → bit_of (with_bit x s v) t ≡ bit_of x t
    go (yes l) =
        let e : t ≡ s + 1 + (t - s - 1) = omega arith in
        let p : with_bit x s v / 2 ^ t ≡ x / 2 ^ t = rw e (above x s (t - s - 1) v) in
        ap (λ z. nat_eq (z % 2) 1) p
    go (no l) =
        let e : s ≡ t + 1 + (s - t - 1) = omega arith in
        let p : with_bit x s v / 2 ^ t % 2 ≡ x / 2 ^ t % 2 = rw e (below x t (s - t - 1) v) in
        ap (λ z. nat_eq z 1) p

-- a number of w bits keeps its width
pub with-lt : (x s w : ℕ) (v : Bool) → s < w → x < 2 ^ w → with_bit x s v < 2 ^ w
with-lt x s w v h l =
    let k : ℕ = w - s - 1 in
    let m : w ≡ k + 1 + s = omega arith in
    let e : 2 ^ w ≡ 2 ^ k * 2 * 2 ^ s = ap (λ z. 2 ^ z) m ∙ pow-add 2 (k + 1) s ∙ ap (λ z. z * 2 ^ s) (pow-add 2 k 1) in
    let q : x / 2 ^ s < 2 ^ k * 2 = (div-lt_iff_lt-mul (two_pos s)).1 (rw e at l) in
    let d = digit_lt v in
    rw e (digits_lt (omega arith) (mod-lt x (two_pos s)))

pub length-put : (bs : List ℕ) (i : ℕ) (v : Bool) → length (put_bit bs i v) ≡ length bs
unfolding put_bit
length-put bs i v = length-set bs (i / 8) _

pub byte_other : (bs : List ℕ) (i k : ℕ) (v : Bool) → k ≢ i / 8 → slice_index (put_bit bs i v) k ≡ slice_index bs k
unfolding put_bit
byte_other bs i k v h = get_or-set_other bs (i / 8) k _ 0 h

pub at_same : (bs : List ℕ) (i : ℕ) (v : Bool) → i < 8 * length bs → bit_at (put_bit bs i v) i ≡ v
unfolding bit_at put_bit
at_same bs i v h =
    ap (λ x. bit_of x (7 - i % 8)) (get_or-set_same bs (i / 8) (with_bit (slice_index bs (i / 8)) (7 - i % 8) v) 0 (omega arith))
    ∙ bit-same (slice_index bs (i / 8)) (7 - i % 8) v

pub at_other : (bs : List ℕ) (i j : ℕ) (v : Bool) → i < 8 * length bs → j ≢ i → bit_at (put_bit bs i v) j ≡ bit_at bs j
unfolding bit_at put_bit
at_other bs i j v h n = go (ℕ_discrete (j / 8) (i / 8))
  where
    go : Dec (j / 8 ≡ i / 8) → bit_at (put_bit bs i v) j ≡ bit_at bs j
    go (yes e) =
        ap (λ k. bit_of (slice_index (put_bit bs i v) k) (7 - j % 8)) e
        ∙ ap (λ x. bit_of x (7 - j % 8)) (get_or-set_same bs (i / 8) (with_bit (slice_index bs (i / 8)) (7 - i % 8) v) 0 (omega arith))
        ∙ bit_other (slice_index bs (i / 8)) (7 - i % 8) (7 - j % 8) v (omega arith)
        ∙ ap (λ k. bit_of (slice_index bs k) (7 - j % 8)) (sym e)
    go (no d) = ap (λ x. bit_of x (7 - j % 8)) (get_or-set_other bs (i / 8) (j / 8) _ 0 d)

-- the bits of equal bytes
pub same_byte : (cs bs : List ℕ) (i : ℕ) → slice_index cs (i / 8) ≡ slice_index bs (i / 8) → bit_at cs i ≡ bit_at bs i
unfolding bit_at
same_byte cs bs i e = ap (λ x. bit_of x (7 - i % 8)) e

pub zero-byte : (bs : List ℕ) (i : ℕ) → slice_index bs (i / 8) ≡ 0 → bit_at bs i ≡ false
unfolding bit_at
zero-byte bs i e = ap (λ x. bit_of x (7 - i % 8)) e ∙ ap (λ x. nat_eq (x % 2) 1) (zero-div (2 ^ (7 - i % 8)))

-- numbers by their bits
shift : (x s : ℕ) → x / 2 ^ suc s ≡ x / 2 / 2 ^ s
shift x s = ap (λ z. x / z) (pow-suc 2 s ∙ mul_comm (2 ^ s) 2) ∙ sym (div-div-eq-div-mul x 2 (2 ^ s))

pub number_lt : (g : Values) (n : ℕ) → number g n < 2 ^ n
unfolding number
number_lt g zero = omega arith
number_lt g (suc n) = let h = number_lt g n in let d = digit_lt (g n) in omega arith

pub digit-eqb : (b : Bool) → (digit b == 1) ≡ b
digit-eqb true = refl
digit-eqb false = refl

pub number_bit : (g : Values) (n s : ℕ) → s < n → bit_of (number g n) s ≡ g (n - 1 - s)
unfolding number
number_bit g zero s h = absurd (omega arith)
number_bit g (suc n) zero h =
    ap (λ z. nat_eq (z % 2) 1) (div-one (number g n * 2 + digit (g n))) ∙ ap (λ z. nat_eq z 1) (digits_mod (number g n) (digit_lt (g n))) ∙ digit-eqb (g n)
    ∙ (let e : n ≡ suc n - 1 - 0 = omega arith in ap g e)
number_bit g (suc n) (suc s) h =
    ap (λ z. nat_eq (z % 2) 1) (shift (number g n * 2 + digit (g n)) s ∙ ap (λ z. z / 2 ^ s) (digits_div (number g n) (digit_lt (g n)))) ∙ number_bit g n s (omega arith)
    ∙ (let e : n - 1 - s ≡ suc n - 1 - suc s = omega arith in ap g e)

same-digit : (a b : ℕ) → a < 2 → b < 2 → (a == 1) ≡ (b == 1) → a ≡ b
same-digit a b h l e = go (ℕ_discrete a 1)
  where
    go : Dec (a ≡ 1) → a ≡ b
    go (yes d) = let c = eqb-true b 1 (sym e ∙ eq-eqb a 1 d) in omega arith
    go (no d) = let c = eqb-false b 1 (sym e ∙ ne_eqb a 1 d) in omega arith

-- a number is given by its bits
pub bits-same : (n x y : ℕ) → x < 2 ^ n → y < 2 ^ n → ((s : ℕ) → s < n → bit_of x s ≡ bit_of y s) → x ≡ y
bits-same zero x y h l e = omega arith
bits-same (suc n) x y h l e =
    let hi : x / 2 ≡ y / 2 = bits-same n (x / 2) (y / 2) (omega arith) (omega arith)
    (λ s k. ap (λ z. nat_eq (z % 2) 1) (sym (shift x s)) ∙ e (suc s) (omega arith) ∙ ap (λ z. nat_eq (z % 2) 1) (shift y s)) in
    let lo : x % 2 ≡ y % 2 = same-digit (x % 2) (y % 2) (omega arith) (omega arith) (ap (λ z. nat_eq (z % 2) 1) (sym (div-one x)) ∙ e 0 (omega arith) ∙ ap (λ z. nat_eq (z % 2) 1) (div-one y)) in
    omega arith

-- a field of the widest that any header has
pub number_small : (g : Values) (n : ℕ) → n ≤ 16 → number g n < 2 ^ 16
number_small g n h = let l = number_lt g n in let m : 2 ^ n ≤ 2 ^ 16 = pow_mono h in omega arith

pub number_none : (g : Values) → number g 0 ≡ 0
unfolding number
number_none g = refl

pub number_more : (g : Values) (n : ℕ) → number g (n + 1) ≡ number g n * 2 + digit (g n)
unfolding number
number_more g n = rw (add-one n)
