-- Spans: m bits of some bytes, or m values of a row, as one number. Laws in SpanLaws.
use Rattle.std.specs.Prelude.{◌≡◌, ℕ, ◌+◌, ◌-◌, ◌*◌, ◌%◌, ◌^◌, ◌<◌, ◌≤◌, ◌⊎◌, List, length, slice_index}
use Rattle.bits.specs.Bits.{Values, bit_of, bit_at}

-- the bits of r are m values of f from `at` on, most significant first
pub record Span (m : ℕ) (f : Values) (at r : ℕ) : Type 0 where
  pub bits : (s : ℕ) → s < m → bit_of r s ≡ f (at + (m - 1 - s))

-- what can be read and stored at bit i: one bit, or where a byte begins eight bits or 64
abbrev pub Aligned : ℕ → ℕ → Type 0
Aligned m i = (m ≡ 1) ⊎ (((m ≡ 8) ⊎ (m ≡ 64)) × (i % 8 ≡ 0))

-- the m bits from bit i on lie in the bytes
pub record Within (m i : ℕ) (bs : List ℕ) : Type 0 where
  pub aligned : Aligned m i
  pub inside : i + m ≤ 8 * length bs

-- of `old` only the m bits from bit i on have changed, and they are the low bits of v
pub record Stored (m i v : ℕ) (old new : List ℕ) : Type 0 where
  pub size : length new ≡ length old
  pub here : (t : ℕ) → t < m → bit_at new (i + t) ≡ bit_of v (m - 1 - t)
  pub beside : (j : ℕ) → (j < i) ⊎ (i + m ≤ j) → bit_at new j ≡ bit_at old j
  pub apart : (k : ℕ) → (8 * k + 8 ≤ i) ⊎ (i + m ≤ 8 * k) → slice_index new k ≡ slice_index old k

-- the values one later, c being the last of them
abbrev pub ahead : ℕ → ℕ → ℕ
ahead x c = x % 2 ^ 63 * 2 + c
