-- Several texts in one file: for each a line with its name, the text's bytes, a record separator and a line feed.
use Rattle.std.specs.Prelude.{ℕ, suc, ◌+◌, ◌≤◌, min, List, [], ◌∷◌, true, false, ◌≡◌, eqb, length, drop}
use Rattle.stored_texts.specs.declared.pieces.Piece.{Piece}

-- how many bytes stand before the first one that is b; all where none is
abbrev pub before : ℕ → List ℕ → ℕ
before b [] = 0
before b (x ∷ s) = elim (eqb x b) [ true ↦ 0 | false ↦ suc (before b s) ]

-- the place of the next b from a place on, or the file's end
unfoldable pub place_of : ℕ → List ℕ → ℕ → ℕ
place_of b file at = at + before b (drop at file)

pub record Found (b : ℕ) (file : List ℕ) (at r : ℕ) : Type 0 where
  pub place : r ≡ place_of b file at
  pub onward : at ≤ r
  pub inside : r ≤ length file

-- a line feed ends the name, a record separator the text
abbrev pub line_feed : ℕ
line_feed = 10

abbrev pub separator : ℕ
separator = 30

-- what stands in the file from a place on
pub record StandsAt (file : List ℕ) (at : ℕ) (r : Piece) : Type 0 where
  pub name : Found line_feed file at r.name
  pub start : r.start ≡ min (r.name + 1) (length file)
  pub end : Found separator file r.start r.end
  pub next : r.next ≡ min (r.end + 2) (length file)
