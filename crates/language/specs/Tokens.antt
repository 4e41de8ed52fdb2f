-- The tokens of a text (document 01, 'Accepted text', first bullet; refusals 1 to 3).
use Rattle.std.specs.Prelude.{ℕ, zero, suc, ◌-◌, List, [], ◌∷◌, Bool, true, false, ◌&&◌, ◌||◌, leb, eqb, length, take, drop}
use Prim.Native.String.{String}
use Rattle.language.specs.Limits.{max_name}
use Rattle.language.specs.Bytes.{ascii, if◌then◌otherwise◌, is_blank, is_digit, is_name_start, is_name_byte, is_mark, starts, same, is_one_of}

-- a sign or a word of the format; a name; a numeral; a string; an enumeration's word; the text's end; a byte that begins no token; a blank or comment
pub data Class : Type 0 where
  Fixed Name Numeral Quoted Marks End Wrong Blank : Class

abbrev pub code : Class → ℕ
code Fixed = 0
code Name = 1
code Numeral = 2
code Quoted = 3
code Marks = 4
code End = 5
code Wrong = 6
code Blank = 7

-- a token: its class, the offset of its first byte, its bytes
pub record Token : Type 0 where
  pub class : Class
  pub at : ℕ
  pub text : List ℕ

abbrev pub is_of : Class → Token → Bool
is_of c t = eqb (code c) (code t.class)

-- is the token this sign or word?
abbrev pub is : String → Token → Bool
is s t = is_of Fixed t && same (ascii s) t.text

-- the signs, longest first, so that the first that fits is the longest: 'Tokens are read longest first'
abbrev pub signs : List String
signs =
    "<->" ∷ "(*)" ∷ "(+)" ∷ "(\\)" ∷ "(-)" ∷ "==" ∷ "!=" ∷ "/=" ∷ "<=" ∷ ">=" ∷ "<-" ∷ "->" ∷ "&&" ∷ "||" ∷ ".." ∷
    "{" ∷ "}" ∷ "(" ∷ ")" ∷ "[" ∷ "]" ∷ ";" ∷ "," ∷ "=" ∷ ":" ∷ "~" ∷ "|" ∷ "*" ∷ "/" ∷ "%" ∷ "+" ∷ "-" ∷ "<" ∷ ">" ∷ "!" ∷ []

-- 'No name is a word of the format, `otherwise`, Mealy, Moore and Strict included'
abbrev pub words : List String
words =
    "INFO" ∷ "TITLE" ∷ "DESCRIPTION" ∷ "SEMANTICS" ∷ "TARGET" ∷ "TAGS" ∷ "Mealy" ∷ "Moore" ∷ "Strict" ∷
    "GLOBAL" ∷ "PARAMETERS" ∷ "DEFINITIONS" ∷ "enum" ∷ "otherwise" ∷
    "MAIN" ∷ "INPUTS" ∷ "OUTPUTS" ∷ "INITIALLY" ∷ "PRESET" ∷ "REQUIRE" ∷ "ASSERT" ∷ "ASSUME" ∷ "GUARANTEE" ∷
    "INVARIANTS" ∷ "ASSUMPTIONS" ∷ "GUARANTEES" ∷
    "true" ∷ "false" ∷ "SUM" ∷ "PROD" ∷ "SIZE" ∷ "MIN" ∷ "MAX" ∷ "SIZEOF" ∷ "MUL" ∷ "DIV" ∷ "MOD" ∷ "PLUS" ∷ "MINUS" ∷
    "CAP" ∷ "CUP" ∷ "SETMINUS" ∷ "EQ" ∷ "NEQ" ∷ "LE" ∷ "LEQ" ∷ "GE" ∷ "GEG" ∷ "GEQ" ∷ "IN" ∷ "ELEM" ∷
    "NOT" ∷ "X" ∷ "F" ∷ "G" ∷ "AND" ∷ "FORALL" ∷ "OR" ∷ "EXISTS" ∷ "IMPLIES" ∷ "EQUIV" ∷ "W" ∷ "U" ∷ "R" ∷ []

-- what stands at the front of the bytes still to be read, and how many bytes it has
pub record Piece : Type 0 where
  pub class : Class
  pub size : ℕ

abbrev piece : Class → ℕ → Piece
piece c n = record { class = c; size = n }

-- how many bytes at the front are of a class
abbrev pub run : (ℕ → Bool) → List ℕ → ℕ
run p [] = 0
run p (b ∷ s) = elim (p b) [ true ↦ suc (run p s) | false ↦ 0 ]

-- '`//` ends at a line feed': the bytes before it
abbrev pub line_size : List ℕ → ℕ
line_size [] = 0
line_size (b ∷ s) = elim (eqb b 10) [ true ↦ 0 | false ↦ suc (line_size s) ]

-- 'A string ends at the next quote': the bytes up to it, n of them read; 0 if there is none
abbrev pub quoted_size : ℕ → List ℕ → ℕ
quoted_size n [] = 0
quoted_size n (b ∷ s) = elim (eqb b 34) [ true ↦ suc n | false ↦ quoted_size (suc n) s ]

-- a block comment while it is read: how many are open, and the byte before, 0 where that byte has already made `/*` or `*/`
pub record Nesting : Type 0 where
  pub depth : ℕ
  pub last : ℕ

-- 'Block comments nest': one byte more
abbrev pub nested : Nesting → ℕ → Nesting
nested n b =
    if eqb n.last 42 && eqb b 47 then record { depth = n.depth - 1; last = 0 } otherwise (
    if eqb n.last 47 && eqb b 42 then record { depth = suc n.depth; last = 0 } otherwise
    record { depth = n.depth; last = b })

-- the bytes up to the comment's end, k of them read; 0 if it is not closed
abbrev pub comment_size : ℕ → Nesting → List ℕ → ℕ
comment_size k n [] = 0
comment_size k n (b ∷ s) =
    let m = nested n b in
    elim (eqb m.depth 0) [ true ↦ suc k | false ↦ comment_size (suc k) m s ]

-- the first sign with which the bytes start
abbrev pub sign_at : List String → List ℕ → Piece
sign_at [] s = piece Wrong 0
sign_at (w ∷ ws) s = elim (starts (ascii w) s) [ true ↦ piece Fixed (length (ascii w)) | false ↦ sign_at ws s ]

-- a word of the format or a name, which has at most 64 bytes
abbrev pub word_at : List ℕ → Piece
word_at s =
    let n = run is_name_byte s in
    if leb n max_name then piece (if is_one_of words (take n s) then Fixed otherwise Name) n otherwise piece Wrong 0

-- 'unclosed comment or string': 0 stands for it
abbrev pub closed : Class → ℕ → Piece
closed c zero = piece Wrong 0
closed c (suc n) = piece c (suc n)

-- what stands at the front, in an enumeration (where 'a word is an unbroken run of `0`, `1`, `*`, and numerals are no tokens') or elsewhere
abbrev pub piece_at : Bool → List ℕ → Piece
piece_at enumerating [] = piece End 0
piece_at enumerating (b ∷ s) =
    if is_blank b then piece Blank 1 otherwise (
    if starts (ascii "//") (b ∷ s) then piece Blank (suc (line_size s)) otherwise (
    if starts (ascii "/*") (b ∷ s) then closed Blank (comment_size 2 (record { depth = 1; last = 0 }) (drop 1 s)) otherwise (
    if eqb b 34 then closed Quoted (quoted_size 1 s) otherwise (
    if is_name_start b then word_at (b ∷ s) otherwise (
    if enumerating && is_mark b then piece Marks (run is_mark (b ∷ s)) otherwise (
    if enumerating && is_digit b then piece Wrong 0 otherwise (
    if is_digit b then piece Numeral (run is_digit (b ∷ s)) otherwise
    sign_at signs (b ∷ s))))))))

abbrev token : Piece → ℕ → List ℕ → Token
token p at s = record { class = p.class; at = at; text = take p.size s }

-- 'From `enum` to the next `;` or `}`'
abbrev pub enumerating_after : Bool → Token → Bool
enumerating_after e t = if is "enum" t then true otherwise (if is ";" t || is "}" t then false otherwise e)

-- The tokens of the bytes from offset `at` on, the first `k` of which belong to the piece before. The list ends with a token of class End at the
-- text's length, or with one of class Wrong where no token can be read.
abbrev pub lex : Bool → ℕ → ℕ → List ℕ → List Token
lex e at k [] = token (piece End 0) at [] ∷ []
lex e at (suc k) (b ∷ s) = lex e (suc at) k s
lex e at zero (b ∷ s) =
    let p = piece_at e (b ∷ s) in
    let t = token p at (b ∷ s) in
    elim (is_of Wrong t) [
      | true ↦ t ∷ []
      | false ↦ elim (is_of Blank t) [
        | true ↦ lex e (suc at) (p.size - 1) s
        | false ↦ t ∷ lex (enumerating_after e t) (suc at) (p.size - 1) s
      ]
    ]

abbrev pub tokens : List ℕ → List Token
tokens s = lex false 0 0 s
