-- The signs and words as bytes, and the search for the first of them that stands at the front of some bytes.
use Rattle.std.specs.Prelude.{ℕ, suc, List, [], ◌∷◌, map, Bool, true, false, ◌&&◌, ◌||◌, eqb, length, get_or}
use Rattle.language.specs.Bytes.{ascii, starts}
use Rattle.lexer.specs.Numbers.{spellings}

-- how many there are
abbrev pub count : ℕ
count = length spellings

unfoldable pub entries : List (List ℕ)
entries = map ascii spellings

unfoldable pub entry : ℕ → List ℕ
entry k = get_or entries k []

-- the place of the first entry that passes the test; the list's length if none does
abbrev pub search : (List ℕ → Bool) → List (List ℕ) → ℕ
search f [] = 0
search f (w ∷ ws) = elim (f w) [ true ↦ 0 | false ↦ suc (search f ws) ]

-- do the bytes start with the entry, which has the size given? Size 0 stands for any.
unfoldable pub fitting : ℕ → List ℕ → List ℕ → Bool
fitting size s w = (eqb size 0 || eqb (length w) size) && starts w s
