-- The classes of bytes, the lexer's own numbers. Marks are `star` and `bit`, digits `bit` and `digit`, bytes of names all from `bit` on; a byte of no class has 0.
use Rattle.std.specs.Prelude.{ℕ, List, [], ◌∷◌}

abbrev pub blank : ℕ
blank = 1

abbrev pub quote : ℕ
quote = 2

abbrev pub slash : ℕ
slash = 3

abbrev pub star : ℕ
star = 4

-- `0` and `1`
abbrev pub bit : ℕ
bit = 5

-- other digits
abbrev pub digit : ℕ
digit = 6

-- first bytes of names
abbrev pub letter : ℕ
letter = 7

abbrev pub prime : ℕ
prime = 8

-- what the code's constants stand for
abbrev pub byte_classes : List ℕ
byte_classes = blank ∷ quote ∷ slash ∷ star ∷ bit ∷ digit ∷ letter ∷ prime ∷ []
