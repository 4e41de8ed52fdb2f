-- Bit fields of a word, for any width. Laws in FieldLaws.
use Rattle.std.specs.Prelude.{ℕ, ◌+◌, ◌*◌, ◌/◌, ◌%◌, ◌^◌}

-- `hi` above the `w` bits of `lo`
abbrev pub join : ℕ → ℕ → ℕ → ℕ
join w hi lo = hi * 2 ^ w + lo

-- what stands above the lowest `w` bits
abbrev pub above : ℕ → ℕ → ℕ
above w x = x / 2 ^ w

-- the lowest `w` bits
abbrev pub below : ℕ → ℕ → ℕ
below w x = x % 2 ^ w
