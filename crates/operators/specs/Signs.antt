-- The signs of bounds by their numbers: `<` and `LE` leave their bound out.
use Rattle.std.specs.Prelude.{ℕ, [], ◌∷◌, Bool}
use Rattle.lexer.specs.Numbers.{numbered}

abbrev pub strict_at : ℕ → Bool
strict_at n = numbered ("<" ∷ "LE" ∷ []) n
