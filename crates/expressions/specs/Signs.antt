-- The signs of bounds by their numbers.
use Rattle.std.specs.Prelude.{ℕ, Bool, ◌||◌, eqb}
use Rattle.lexer.specs.Numbers.{fixed}
use Rattle.operators.specs.Signs.{strict_at}

-- `<` and `LE`, or `<=` and `LEQ`
abbrev pub sign_at : ℕ → Bool
sign_at n = strict_at n || (eqb n (fixed "<=") || eqb n (fixed "LEQ"))
