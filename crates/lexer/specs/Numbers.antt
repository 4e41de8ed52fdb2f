-- The number of a token, by which the code knows it: its class's own number, or `first_fixed` and its place in the list of signs and words.
use Rattle.std.specs.Prelude.{ℕ, suc, ◌+◌, List, [], ◌∷◌, ◌++◌, Bool, true, false, ◌||◌, eqb, length}
use Prim.Native.String.{String}
use Rattle.language.specs.Bytes.{ascii, if◌then◌otherwise◌, same}
use Rattle.language.specs.Tokens.{Class, Fixed, Name, Numeral, Quoted, Marks, End, Wrong, Blank, Token, is_of, signs, words}

-- the signs and words of the format
abbrev pub spellings : List String
spellings = signs ++ words

-- the place of the first string that has these bytes; the list's length if none has
abbrev pub position : List String → List ℕ → ℕ
position [] s = 0
position (w ∷ ws) s = elim (same (ascii w) s) [ true ↦ 0 | false ↦ suc (position ws s) ]

-- what is no token has this number, which is never stored
abbrev pub no_number : ℕ
no_number = 255

abbrev pub class_number : Class → ℕ
class_number End = 0
class_number Name = 1
class_number Numeral = 2
class_number Quoted = 3
class_number Marks = 4
class_number Fixed = no_number
class_number Wrong = no_number
class_number Blank = no_number

-- the numbers of signs and words come after those of classes
abbrev pub first_fixed : ℕ
first_fixed = 5

-- a sign or word by its bytes, every other token by its class
unfoldable pub number : Token → ℕ
number t = if is_of Fixed t then first_fixed + position spellings t.text otherwise class_number t.class

-- the number of a sign or word
abbrev pub fixed : String → ℕ
fixed s = first_fixed + position spellings (ascii s)

-- is the number that of one of the strings?
abbrev pub numbered : List String → ℕ → Bool
numbered [] n = false
numbered (s ∷ ss) n = eqb n (fixed s) || numbered ss n

-- what the code's constants stand for, in their order
abbrev pub numbers : List ℕ
numbers =
    class_number Name ∷ class_number Numeral ∷ class_number Quoted ∷ class_number Marks ∷ first_fixed ∷ fixed "<=" ∷ fixed "<-" ∷ fixed ".." ∷
    fixed "{" ∷ fixed "}" ∷ fixed "(" ∷ fixed ")" ∷ fixed "[" ∷ fixed "]" ∷ fixed ";" ∷ fixed "," ∷ fixed "=" ∷ fixed ":" ∷ fixed "|" ∷
    fixed "<" ∷ fixed "INFO" ∷ fixed "TITLE" ∷ fixed "DESCRIPTION" ∷ fixed "SEMANTICS" ∷ fixed "TARGET" ∷ fixed "TAGS" ∷ fixed "Mealy" ∷
    fixed "Moore" ∷ fixed "Strict" ∷ fixed "GLOBAL" ∷ fixed "PARAMETERS" ∷ fixed "DEFINITIONS" ∷ fixed "enum" ∷ fixed "MAIN" ∷ fixed "INPUTS" ∷
    fixed "true" ∷ fixed "false" ∷ fixed "LE" ∷ fixed "LEQ" ∷ fixed "IN" ∷ fixed "ELEM" ∷ (first_fixed + length spellings) ∷ no_number ∷ []
