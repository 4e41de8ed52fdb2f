-- Bits of numbers and of bytes, 'most significant first' (document 01, 'Recordings'). Laws in BitLaws.
use Rattle.std.specs.Prelude.{ℕ, zero, suc, ◌+◌, ◌-◌, ◌*◌, ◌/◌, ◌%◌, ◌^◌, Bool, true, false, List, ◌==◌, slice_index, slice_set}

-- a value for each position, or for each bit
abbrev pub Values : Type 0
Values = ℕ → Bool

abbrev pub digit : Bool → ℕ
digit true = 1
digit false = 0

-- bit s of x, counted from the least significant
abbrev pub bit_of : ℕ → ℕ → Bool
bit_of x s = x / 2 ^ s % 2 == 1

-- bit i of some bytes, most significant first
unfoldable pub bit_at : List ℕ → ℕ → Bool
bit_at bs i = bit_of (slice_index bs (i / 8)) (7 - i % 8)

-- the number in the first n of some bits, most significant first
unfoldable pub number : Values → ℕ → ℕ
number bit zero = 0
number bit (suc n) = number bit n * 2 + digit (bit n)

-- the bytes that n bits take, 'rounded up to bytes'
abbrev pub width : ℕ → ℕ
width n = (n + 7) / 8

-- x with v as bit s
abbrev pub with_bit : ℕ → ℕ → Bool → ℕ
with_bit x s v = (x / 2 ^ s / 2 * 2 + digit v) * 2 ^ s + x % 2 ^ s

-- bytes with v as bit i
unfoldable pub put_bit : List ℕ → ℕ → Bool → List ℕ
put_bit bs i v = slice_set bs (i / 8) (with_bit (slice_index bs (i / 8)) (7 - i % 8) v)
