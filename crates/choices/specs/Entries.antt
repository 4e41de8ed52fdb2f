-- The entries of an enumeration's words: where they end, and the tokens' words of those among them that are words.
use Rattle.std.specs.Prelude.{ℕ, zero, suc, ◌+◌, ◌-◌, true, false, ◌&&◌, List, [], ◌∷◌, map, ◌≡◌, eqb, leb}
use Rattle.language.specs.Limits.{max_tokens}
use Rattle.language.specs.Tokens.{Token}
use Rattle.lexer.specs.Stored.{offset_in, length_in}
use Rattle.entries.specs.Kinds as Kind
use Rattle.traversal.specs.Cells.{cell_at}
use Rattle.enumerations.specs.Pass.{bytes_at}

-- the first entry from i on, of n, that is of none of the kinds `low` to that of a word
unfoldable pub end_in : List ℕ → ℕ → ℕ → ℕ → ℕ
end_in w low zero i = i
end_in w low (suc n) i = elim (leb low (cell_at w i).kind && leb (cell_at w i).kind Kind.word) [ true ↦ end_in w low n (suc i) | false ↦ i ]

unfoldable pub end_from : List ℕ → ℕ → ℕ → ℕ
end_from w low i = end_in w low (max_tokens - i) i

-- behind an identifier's entry, behind an enumeration's
abbrev pub words_end : List ℕ → ℕ → ℕ
words_end w identifier = end_from w Kind.word (identifier + 1)

abbrev pub identifiers_end : List ℕ → ℕ → ℕ
identifiers_end w enumeration = end_from w Kind.identifier (enumeration + 1)

-- the tokens' words of the words among n entries from i on
unfoldable pub words_at : List ℕ → ℕ → ℕ → List ℕ
words_at w i zero = []
words_at w i (suc n) = elim (eqb (cell_at w i).kind Kind.word) [ true ↦ (cell_at w i).token ∷ words_at w (suc i) n | false ↦ words_at w (suc i) n ]

-- a token's bytes, from its word
abbrev pub row_in : List ℕ → ℕ → List ℕ
row_in text x = bytes_at text (offset_in x) (length_in x)

-- the marks of the words in the entries [from, to)
unfoldable pub rows_at : List ℕ → List ℕ → ℕ → ℕ → List (List ℕ)
rows_at text w from to = map (row_in text) (words_at w from (to - from))

abbrev pub texts_of : List Token → List (List ℕ)
texts_of ws = map (λ (t : Token). t.text) ws

-- the words in the entries [from, to) are ws
pub record Words (text w : List ℕ) (from to : ℕ) (ws : List Token) : Type 0 where
  pub rows : rows_at text w from to ≡ texts_of ws
