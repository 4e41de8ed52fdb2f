-- Limits of recordings (document 01, 'Recordings' and the table of refusals).
use Rattle.std.specs.Prelude.{ℕ, ◌+◌, ◌*◌, ◌/◌, min, List, [], ◌∷◌}
use Rattle.basics.specs.Told.{max_told}
use Rattle.bits.specs.Bits.{width}
-- 'a signal count of at most 255'
pub use Rattle.node.specs.Limits.{max_signals}

-- '12 positions N (1 to 2,048)'
abbrev pub max_positions : ℕ
max_positions = 2_048

-- 'Bits, most significant first: 12 positions N (1 to 2,048), 12 loop start L below N, 8 signal count K': the fields of the header
abbrev pub position_bits : ℕ
position_bits = 12

abbrev pub start_bits : ℕ
start_bits = 12

abbrev pub signal_bits : ℕ
signal_bits = 8

abbrev pub header_bits : ℕ
header_bits = position_bits + start_bits + signal_bits

abbrev pub header_bytes : ℕ
header_bytes = header_bits / 8

-- the longest recording
abbrev pub longest : ℕ
longest = header_bytes + width (max_positions * max_signals)

-- a place has 32 bits in an answer: one beyond them, which only a recording of 4 GB can have, is told as the last
unfoldable pub told : ℕ → ℕ
told place = min max_told place

-- what the code's constants stand for, in their order
abbrev pub limits : List ℕ
limits = max_positions ∷ max_signals ∷ position_bits ∷ start_bits ∷ signal_bits ∷ header_bits ∷ header_bytes ∷ longest ∷ []
