-- Refusal 10 as one pass over the entries: of the enumeration that is read its identifiers and words so far, up to its first bad word.
use Rattle.std.specs.Prelude.{ℕ, zero, suc, ◌+◌, List, [], ◌∷◌, ◌++◌, Bool, true, false, ◌&&◌, ◌||◌, not, eqb, leb, ltb, length, get_or}
use Rattle.std.proofs.Math.Option.{Option, some}
use Rattle.language.specs.Limits.{max_words, max_marks}
use Rattle.language.specs.Bytes.{if◌then◌otherwise◌}
use Rattle.language.specs.Places.{first}
use Rattle.language.specs.Words.{meet}
use Rattle.lexer.specs.Stored.{offset_in, length_in}
use Rattle.entries.specs.Kinds as Kind
use Rattle.traversal.specs.declared.Cell.{Cell}

-- a word's identifier and its marks
pub record Row : Type 0 where
  pub owner : ℕ
  pub marks : List ℕ

-- how many identifiers, how many marks the first word has, whether a bad word was met, the words before it, the first place found
pub record State : Type 0 where
  pub owner : ℕ
  pub size : ℕ
  pub closed : Bool
  pub rows : List Row
  pub found : Option ℕ

-- n bytes of the text
unfoldable pub bytes_at : List ℕ → ℕ → ℕ → List ℕ
bytes_at text at zero = []
bytes_at text at (suc n) = bytes_at text at n ++ (get_or text (at + n) 0 ∷ [])

abbrev pub any_clash : ℕ → List ℕ → List Row → Bool
any_clash o v [] = false
any_clash o v (r ∷ rs) = (not (eqb r.owner o) && meet r.marks v) || any_clash o v rs

unfoldable pub size_of : ℕ → ℕ → ℕ → ℕ
size_of count size n = if eqb count 0 then n otherwise size

abbrev pub shut : State → ℕ → State
shut s p = record { owner = s.owner; size = s.size; closed = true; rows = s.rows; found = first s.found (some p) }

abbrev pub opened : State → ℕ → Row → State
opened s n r = record { owner = s.owner; size = n; closed = false; rows = s.rows ++ (r ∷ []); found = s.found }

-- the word of a token with the word x, in an enumeration whose words have n marks
unfoldable pub tested : List ℕ → ℕ → ℕ → State → State
tested text x n s =
    if eqb (length_in x) n then (
    if leb n max_marks then (
    if ltb (length s.rows) max_words then (
    if any_clash s.owner (bytes_at text (offset_in x) n) s.rows then shut s (offset_in x) otherwise opened s n (record { owner = s.owner; marks = bytes_at text (offset_in x) n }))
    otherwise shut s (offset_in x)) otherwise shut s (offset_in x)) otherwise shut s (offset_in x)

unfoldable pub word : List ℕ → ℕ → State → State
word text x s = if s.closed then s otherwise tested text x (size_of (length s.rows) s.size (length_in x)) s

abbrev pub begun : State → State
begun s = record { owner = 0; size = 0; closed = false; rows = []; found = s.found }

abbrev pub named : State → State
named s = record { owner = suc s.owner; size = s.size; closed = s.closed; rows = s.rows; found = s.found }

unfoldable pub step : List ℕ → Cell → State → State
step text c s =
    if eqb c.kind Kind.enumeration then begun s otherwise (
    if eqb c.kind Kind.identifier then named s otherwise (
    if eqb c.kind Kind.word then word text c.token s otherwise s))
