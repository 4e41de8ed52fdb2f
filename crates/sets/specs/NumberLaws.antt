-- Laws of numerals.
use Rattle.std.specs.Prelude.{ℕ, suc, ◌+◌, ◌-◌, ◌*◌, ◌^◌, ◌≤◌, ◌<◌, ◌≡◌, refl, Bool, true, false, ◌&&◌, List, [], ◌∷◌, leb, length, get_or, take, drop}
use Rattle.std.proofs.Common.{sym, ap, ap₂, ◌∙◌, drop_of_length-le, drop-cons, arith, mul-le-mul, Fits, le-leb}
use Rattle.std.proofs.lemmas.Bool.{false≢true, lt-leb}
use Rattle.std.specs.Int.{w32, w64}
use Rattle.node.specs.Result.{Done, Refused}
use Rattle.node.proofs.ResultLaws.{guard-pass, guard-stop}
use Rattle.language.specs.Limits.{max_number}
use Rattle.language.specs.Bytes.{is_digit}
use Rattle.language.specs.Tokens.{run}
use Rattle.language.specs.Values.{in_range, decimal}
use Rattle.sets.specs.Digits.{digits_at}

pub in_range_lem : (place v : ℕ) → v ≤ max_number → Done v ≡ in_range place v
in_range_lem place v h = sym (guard-pass 11 place (Done v) (le-leb _ _ h))

pub out_of_range : (place v : ℕ) → max_number < v → Refused 11 place ≡ in_range place v
out_of_range place v h = sym (guard-stop 11 place (Done v) (lt-leb _ _ h))

-- a numeral's value is at least that of the digits read
pub decimal-grows : (v : ℕ) (s : List ℕ) → v ≤ decimal v s
decimal-grows v [] = omega arith
decimal-grows v (b ∷ s) = let rest = decimal-grows (v * 10 + (b - 48)) s in omega arith

-- the digits at the front of the bytes: one more, or none
front-digit : (b n : ℕ) (s : List ℕ) (c : Bool) → c ≡ true → take (elim c [ true ↦ suc n | false ↦ 0 ]) (b ∷ s) ≡ b ∷ take n s
front-digit b n s true e = refl
front-digit b n s false e = absurd (false≢true e)

front_other : (b n : ℕ) (s : List ℕ) (c : Bool) → c ≡ false → take (elim c [ true ↦ suc n | false ↦ 0 ]) (b ∷ s) ≡ []
front_other b n s true e = absurd (false≢true (sym e))
front_other b n s false e = refl

-- a digit at i, and none
pub digits_more : (text : List ℕ) (i : ℕ) → i < length text → 48 ≤ get_or text i 0 → get_or text i 0 ≤ 57 → digits_at text i ≡ get_or text i 0 ∷ digits_at text (suc i)
unfolding digits_at
digits_more text i l low high =
    rw (drop-cons text i 0 l)
    (front-digit (get_or text i 0) (run is_digit (drop (suc i) text)) (drop (suc i) text) (is_digit (get_or text i 0)) (ap₂ ◌&&◌ (le-leb 48 (get_or text i 0) low) (le-leb (get_or text i 0) 57 high)))

digits_none : (text : List ℕ) (i : ℕ) → i < length text → is_digit (get_or text i 0) ≡ false → digits_at text i ≡ []
unfolding digits_at
digits_none text i l e =
    rw (drop-cons text i 0 l)
    (front_other (get_or text i 0) (run is_digit (drop (suc i) text)) (drop (suc i) text) (is_digit (get_or text i 0)) e)

pub digits_low : (text : List ℕ) (i : ℕ) → i < length text → get_or text i 0 < 48 → digits_at text i ≡ []
digits_low text i l low = digits_none text i l (ap (λ x. x && leb (get_or text i 0) 57) (lt-leb 48 (get_or text i 0) low))

pub digits-high : (text : List ℕ) (i : ℕ) → i < length text → 57 < get_or text i 0 → digits_at text i ≡ []
digits-high text i l high = digits_none text i l (ap₂ ◌&&◌ (le-leb 48 (get_or text i 0) (omega arith)) (lt-leb (get_or text i 0) 57 high))

pub digits-end : (text : List ℕ) (i : ℕ) → length text ≤ i → digits_at text i ≡ []
unfolding digits_at
digits-end text i l = rw (drop_of_length-le text l)

-- a numeral while it is read: v from the digits before i
pub record Reading (text : List ℕ) (at v i : ℕ) : Type 0 where
  pub value : decimal v (digits_at text i) ≡ decimal 0 (digits_at text at)

pub reading_on : (text : List ℕ) (at v i d : ℕ) → Reading text at v i → i < length text → d ≡ get_or text i 0 → 48 ≤ d → d ≤ 57 → Reading text at (v * 10 + (d - 48)) (suc i)
reading_on text at v i d h l e low high =
    record { value = rw e (rw (digits_more text i l (rw e at low) (rw e at high)) at h.value) }

pub numeral-read : (text : List ℕ) (at v i : ℕ) → Reading text at v i → v ≤ max_number → digits_at text i ≡ [] → Done v ≡ in_range at (decimal 0 (digits_at text at))
numeral-read text at v i h l e = in_range_lem at v l ∙ ap (in_range at) (rw e at h.value)

pub numeral_large : (text : List ℕ) (at v i : ℕ) → Reading text at v i → max_number < v → Refused 11 at ≡ in_range at (decimal 0 (digits_at text at))
numeral_large text at v i h l =
    let whole = decimal-grows v (digits_at text i) in
    let same = h.value in
    out_of_range at (decimal 0 (digits_at text at)) (omega arith)

-- a product of two 32-bit numbers fits in 64 bits
pub product_fits : (a b : ℕ) → Fits w32 a → Fits w32 b → Fits w64 (a * b)
product_fits a b h g =
    let left = h.fits in
    let right = g.fits in
    record { fits = omega (arith, mul-le-mul {n₁ = a} {m₁ = b} {n₂ = 2 ^ 32 - 1} {m₂ = 2 ^ 32 - 1} (omega arith) (omega arith)) }
