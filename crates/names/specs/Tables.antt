-- Visible names as a table over spellings: at the number of a spelling stands the smallest place of a visible name of that spelling. One number stands for no
-- place; it is above all places, so that the smaller of two places, and the later of two names, are plain minima and maxima.
use Rattle.std.specs.Prelude.{ℕ, ◌-◌, ◌≤◌, ◌<◌, ◌^◌, min, List, [], ◌∷◌, true, false, ◌≡◌, ltb, length, get_or}
use Rattle.std.proofs.Math.Option.{Option, none, some}
use Rattle.language.specs.Bytes.{same}
use Rattle.language.specs.Tokens.{Token}
use Rattle.language.specs.Names.{Names}
use Rattle.spellings.specs.Interned.{token_at, IsName, top}

-- what tables hold has so many bits
abbrev pub table_bits : ℕ
table_bits = 16

abbrev pub no_place : ℕ
no_place = 2 ^ table_bits - 1

unfoldable pub place_of : ℕ → Option ℕ
place_of v = elim (ltb v no_place) [ true ↦ some v | false ↦ none ]

-- the smallest place of a name of this spelling
unfoldable pub least : Names → Token → ℕ
least [] t = no_place
least (n ∷ ns) t = elim (same n.text t.text) [ true ↦ min n.at (least ns t) | false ↦ least ns t ]

-- the place of a name that is used, if no name of its spelling is visible: v is their smallest place
unfoldable pub hidden_place : ℕ → ℕ → ℕ
hidden_place v at = elim (ltb v no_place) [ true ↦ no_place | false ↦ at ]

-- tokens of a text have places
abbrev pub Placed : Token → Type 0
Placed t = t.at < no_place

-- what a table holds at the numbers of the names of a text: m of each
pub record Shows (ts : List Token) (count : ℕ) (ids table : List ℕ) (m : Token → ℕ) : Type 0 where
  pub room : top ids ≤ length table
  pub holds : (j : ℕ) → j < count → IsName ts j → get_or table (get_or ids j 0) 0 ≡ m (token_at ts j)
