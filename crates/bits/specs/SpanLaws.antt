-- Spans that were read and stored: whole bytes by the laws of n bytes, one bit by the laws of a bit.
use Rattle.std.specs.Prelude.{◌≡◌, ℕ, ◌+◌, ◌-◌, ◌*◌, ◌/◌, ◌%◌, ◌^◌, ◌<◌, ◌≤◌, Bool, true, false, not, ◌≢◌, List, length, slice_index, refl}
use Rattle.std.proofs.Common.{ap, ap₂, ◌∙◌, inl, inr, ⊎_elim, arith}
use Rattle.words.specs.Words.{read_at, write_at}
use Rattle.words.specs.WordLaws.{length-write}
use Rattle.bits.specs.Bits.{Values, digit, bit_of, bit_at, number, put_bit}
use Rattle.bits.specs.BitLaws.{length-put, byte_other, at_same, at_other, same_byte, number_bit}
use Rattle.bits.specs.Bitwise.{zero_bit, flip-bit}
use Rattle.bits.specs.ByteLaws.{read-bit, write-bit, write_other}
use Rattle.bits.specs.Spans.{Span, Aligned, Within, Stored}

pub whole-bytes : {m i : ℕ} {bs : List ℕ} → Within m i bs → 1 < m → i % 8 ≡ 0
whole-bytes {m} {i} w h = go w.aligned
  where
    go : Aligned m i → i % 8 ≡ 0
    go (inl e) = absurd (omega arith)
    go (inr (e, whole)) = whole

pub one_bit : {m i : ℕ} {bs : List ℕ} → Within m i bs → m ≢ 8 → m ≢ 64 → m ≡ 1
one_bit {m} {i} w a b = go w.aligned
  where
    go : Aligned m i → m ≡ 1
    go (inl e) = e
    go (inr (inl e, whole)) = absurd (a e)
    go (inr (inr e, whole)) = absurd (b e)

-- n bytes read
pub span-read : (bs : List ℕ) → ((k : ℕ) → slice_index bs k < 256) → (i n : ℕ) → i % 8 ≡ 0 → Span (8 * n) (bit_at bs) i (read_at bs (i / 8) n)
unfolding bit_at
span-read bs small i n whole = record { bits = λ s h. go s h }
  where
    go : (s : ℕ) → s < 8 * n → bit_of (read_at bs (i / 8) n) s ≡ bit_at bs (i + (8 * n - 1 - s))
    go s h =
        let a : i / 8 + (n - 1 - s / 8) ≡ (i + (8 * n - 1 - s)) / 8 = omega arith in
        let b : s % 8 ≡ 7 - (i + (8 * n - 1 - s)) % 8 = omega arith in
        read-bit bs small (i / 8) n s h ∙ ap₂ (λ y z. bit_of (slice_index bs y) z) a b

digit-bit : (v : Bool) → bit_of (digit v) 0 ≡ v
digit-bit true = refl
digit-bit false = refl

-- one bit read
pub span-bit : (f : Values) (i : ℕ) (v : Bool) {r : ℕ} → r ≡ digit v → v ≡ f i → Span 1 f i r
span-bit f i v {r} e d = record { bits = λ s h. go s h }
  where
    go : (s : ℕ) → s < 1 → bit_of r s ≡ f (i + (1 - 1 - s))
    go s h =
        let z : s ≡ 0 = omega arith in
        let a : i ≡ i + (1 - 1 - s) = omega arith in
        ap₂ bit_of e z ∙ digit-bit v ∙ d ∙ ap f a

-- n bytes stored
pub stored_bytes : (bs : List ℕ) (i n v : ℕ) → i % 8 ≡ 0 → i + 8 * n ≤ 8 * length bs → Stored (8 * n) i v bs (write_at bs (i / 8) n v)
stored_bytes bs i n v whole room =
    record {
      size = length-write bs (i / 8) n v;
      here = λ t h. let e : i + t ≡ 8 * (i / 8) + t = omega arith in ap (bit_at (write_at bs (i / 8) n v)) e ∙ write-bit bs (i / 8) n v (omega arith) t h;
      beside = λ j h. same_byte (write_at bs (i / 8) n v) bs j (write_other bs (i / 8) n v (j / 8) (⊎_elim (λ l. inl (omega arith)) (λ l. inr (omega arith)) h));
      apart = λ k h. write_other bs (i / 8) n v k (⊎_elim (λ l. inl (omega arith)) (λ l. inr (omega arith)) h);
    }

-- one bit stored
pub stored_bit : (bs : List ℕ) (i v : ℕ) {b : Bool} → i < 8 * length bs → b ≡ bit_of v 0 → Stored 1 i v bs (put_bit bs i b)
stored_bit bs i v {b} room e =
    record {
      size = length-put bs i b;
      here = λ t h. let z : i + t ≡ i = omega arith in let s : 0 ≡ 1 - 1 - t = omega arith in ap (bit_at (put_bit bs i b)) z ∙ at_same bs i b room ∙ e ∙ ap (bit_of v) s;
      beside = λ j h. at_other bs i j b room (⊎_elim (λ l. omega arith) (λ l. omega arith) h);
      apart = λ k h. byte_other bs i k b (⊎_elim (λ l. omega arith) (λ l. omega arith) h);
    }

pub span_true : (m at : ℕ) → m ≤ 64 → Span m (λ q. true) at (2 ^ 64 - 1)
span_true m at l = record { bits = λ s h. flip-bit 64 0 s (omega arith) (omega arith) ∙ ap not (zero_bit s) }

pub span_false : (m at : ℕ) → Span m (λ q. false) at 0
span_false m at = record { bits = λ s h. zero_bit s }

-- bits gathered one by one
pub span-number : (m at : ℕ) (f : Values) {r : ℕ} → r ≡ number (λ q. f (at + q)) m → Span m f at r
span-number m at f e = record { bits = λ s h. ap (λ z. bit_of z s) e ∙ number_bit (λ q. f (at + q)) m s h }

pub span_as : {m at r : ℕ} {f g : Values} → Span m f at r → ((q : ℕ) → at ≤ q → q < at + m → f q ≡ g q) → Span m g at r
span_as {m} {at} h e = record { bits = λ s l. h.bits s l ∙ e (at + (m - 1 - s)) (omega arith) (omega arith) }

-- the value at a span's first position
pub span-first : {m at r : ℕ} {f : Values} → 0 < m → Span m f at r → bit_of r (m - 1) ≡ f at
span-first {m} {at} {f = f} pos h = let e : at + (m - 1 - (m - 1)) ≡ at = omega arith in h.bits (m - 1) (omega arith) ∙ ap f e
