-- A pass backwards over the bits of a number, v = g || (p && v one later), by the carries of an addition. Laws in RippleLaws.
use Rattle.std.specs.Prelude.{ℕ, zero, suc, ◌+◌, Bool, ◌==◌, bit_and, bit_or, bit_xor}
use Rattle.bits.specs.Bits.{bit_of}

-- the carries of (p | g) + g + c: a bit generates one where g has it, and hands one on where p has it
unfoldable pub ripple : ℕ → ℕ → ℕ → ℕ
ripple p g c = bit_or g (bit_and p (bit_xor (bit_xor (bit_or p g + g + c) (bit_or p g)) g))

-- the value one position later: the bit below, or what came in
abbrev pub before : ℕ → ℕ → ℕ → Bool
before c r zero = c == 1
before c r (suc s) = bit_of r s
