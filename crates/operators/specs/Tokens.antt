-- The tokens that are operators and have no name in crate lexer's Numbers, in the order of the code's constants: signs, then words.
use Rattle.std.specs.Prelude.{ℕ, List, [], ◌∷◌, map}
use Prim.Native.String.{String}
use Rattle.lexer.specs.Numbers.{fixed}

abbrev pub operator_spellings : List String
operator_spellings =
    "<->" ∷ "(*)" ∷ "(+)" ∷ "(\\)" ∷ "(-)" ∷ "==" ∷ "!=" ∷ "/=" ∷ ">=" ∷ "->" ∷ "&&" ∷ "||" ∷ "*" ∷ "/" ∷ "%" ∷ "+" ∷ "-" ∷ ">" ∷ "!" ∷ "SUM" ∷
    "PROD" ∷ "SIZE" ∷ "MIN" ∷ "MAX" ∷ "SIZEOF" ∷ "MUL" ∷ "DIV" ∷ "MOD" ∷ "PLUS" ∷ "MINUS" ∷ "CAP" ∷ "CUP" ∷ "SETMINUS" ∷ "EQ" ∷ "NEQ" ∷ "GE" ∷ "GEG" ∷
    "GEQ" ∷ "NOT" ∷ "X" ∷ "F" ∷ "G" ∷ "AND" ∷ "FORALL" ∷ "OR" ∷ "EXISTS" ∷ "IMPLIES" ∷ "EQUIV" ∷ "W" ∷ "U" ∷ "R" ∷ []

-- what the code's constants stand for
abbrev pub tokens : List ℕ
tokens = map fixed operator_spellings
