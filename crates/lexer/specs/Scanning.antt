-- What the lexer's functions ask and answer: the piece at a place as a number and a size, and one token more in the buffer.
use Rattle.std.specs.Prelude.{ℕ, ◌≤◌, ◌<◌, List, Bool, true, false, ◌||◌, ◌≡◌, eqb, ltb, length, get_or, take}
use Rattle.words.specs.Words.{put_word}
use Rattle.language.specs.Limits.{max_bytes, max_tokens}
use Rattle.language.specs.Bytes.{if◌then◌otherwise◌}
use Rattle.language.specs.Tokens.{Piece, Nesting, nested, piece_at}
use Rattle.lexer.specs.Numbers.{no_number, number, fixed}
use Rattle.lexer.specs.Answer.{token_bytes}
use Rattle.lexer.specs.Spelling.{count}
use Rattle.lexer.specs.Tables.{NextWith, RightBytes, RightRows}
use Rattle.lexer.specs.declared.sizes.Nest.{Nest}
use Rattle.lexer.specs.declared.piece.Scanned.{Scanned}

-- after `/*`
abbrev pub opened : Nesting
opened = record { depth = 1; last = 0 }

-- one byte more of a comment
pub record Nests (depth last b : ℕ) (r : Nest) : Type 0 where
  pub depths : r.depth ≡ (nested (record { depth = depth; last = last }) b).depth
  pub lasts : r.last ≡ (nested (record { depth = depth; last = last }) b).last

-- the answers of a call on a byte are those of the test
abbrev pub Tests : (ℕ → Bool) → (ℕ → Bool → Type 0) → Type 0
Tests p Answers = (b : ℕ) (r : Bool) → b < 256 → Answers b r → r ≡ p b

-- the number of the token that a piece at the front of the bytes makes, wherever it stands
unfoldable pub piece_number : Piece → List ℕ → ℕ
piece_number p s = number (record { class = p.class; at = 0; text = take p.size s })

-- entry k may be compared with the bytes from `at` on
pub record Comparable (text : List ℕ) (at : ℕ) (rs : List ℕ) (k : ℕ) : Type 0 where
  pub inside : at ≤ length text
  pub known : k < count
  pub rows : RightRows rs

-- the search for the bytes from `at` on may begin at this entry
pub record Findable (text : List ℕ) (at : ℕ) (rs : List ℕ) (first : ℕ) : Type 0 where
  pub inside : at < length text
  pub rows : RightRows rs
  pub leads : NextWith (get_or text at 0) 0 first

-- there is a byte at `at` of a text that refusal 1 let pass, and the tables are right
pub record Scannable (text : List ℕ) (at : ℕ) (bs rs : List ℕ) : Type 0 where
  pub short : length text ≤ max_bytes
  pub inside : at < length text
  pub bytes : RightBytes bs
  pub rows : RightRows rs

-- the piece p at the front of s
pub record ScansAs (p : Piece) (s : List ℕ) (r : Scanned) : Type 0 where
  pub number : r.number ≡ piece_number p s
  pub size : r.size ≡ p.size

abbrev pub Scans : Bool → List ℕ → Scanned → Type 0
Scans e s r = ScansAs (piece_at e s) s r

-- a string or comment of this size, 0 if it is not closed
abbrev pub closed_as : ℕ → ℕ → Scanned
closed_as n size = if eqb size 0 then record { number = no_number; size = 0 } otherwise record { number = n; size = size }

-- is the text in an enumeration after a token of this number?
abbrev pub enumerating_by : Bool → ℕ → Bool
enumerating_by e n = if eqb n (fixed "enum") then true otherwise (if eqb n (fixed ";") || eqb n (fixed "}") then false otherwise e)

-- the place of the token after the last that a text may have, at token n
abbrev pub later_place : ℕ → ℕ → ℕ → ℕ
later_place n over at = if eqb n max_tokens then at otherwise over

-- the buffer has room for the tokens, and number and offset fit their fields
pub record Storable (w : List ℕ) (n at : ℕ) : Type 0 where
  pub room : token_bytes ≤ length w
  pub small : n < no_number
  pub near : at < max_bytes

-- the buffer with the word of token n, if it is one that a text may have
abbrev pub storing : List ℕ → ℕ → ℕ → List ℕ
storing w n v = if ltb n max_tokens then put_word w n v otherwise w
