-- The bounds of a big operator's name, by their signs.
use Rattle.std.specs.Prelude.{ℕ}
use Rattle.entries.specs.Kinds as Kind
use Rattle.operators.specs.Signs.{strict_at}

-- the kind of bounds by the number of the high one's sign
abbrev pub between_at : ℕ → ℕ
between_at high = Kind.between (strict_at high)
