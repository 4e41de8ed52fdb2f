-- Stretches: some spans of a row one after the other.
use Rattle.std.specs.Prelude.{ℕ, ◌+◌, ◌*◌, ◌/◌, ◌%◌, ◌≤◌}
use Rattle.bits.specs.Spans.{Aligned}
use Rattle.rows.specs.declared.Stretch.{Stretch}

-- the position after a stretch
abbrev pub end_of : Stretch → ℕ
end_of s = s.from + s.size * s.count

-- its spans can be read and stored
abbrev pub Regular : Stretch → Type 0
Regular s = Aligned s.size s.from

-- the three stretches of a row of n positions: whole words, whole bytes past them, and the at most seven positions past these
abbrev pub in_words : ℕ → Stretch
in_words n = record { from = 0; count = n / 64; size = 64 }

abbrev pub in_bytes : ℕ → Stretch
in_bytes n = record { from = 64 * (n / 64); count = n / 8 % 8; size = 8 }

abbrev pub in_bits : ℕ → Stretch
in_bits n = record { from = 8 * (n / 8); count = n % 8; size = 1 }

-- a stretch of a row of n positions
pub record Inner (n : ℕ) (s : Stretch) : Type 0 where
  pub end : end_of s ≤ n
  pub regular : Regular s
