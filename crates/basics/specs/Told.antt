-- The numbers that an answer can tell: places and counts of 32 bits.
use Rattle.std.specs.Prelude.{ℕ}

-- the largest place or count that an answer can tell
abbrev pub max_told : ℕ
max_told = 4_294_967_295
