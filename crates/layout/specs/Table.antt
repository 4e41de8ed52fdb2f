-- The table of pieces: a row for each kind and each number of operands written.
use Rattle.std.specs.Prelude.{ℕ, zero, suc, ◌+◌, ◌*◌, ◌<◌, ◌≤◌, ◌≡◌, Bool, List, [], ◌∷◌, ◌++◌, ltb, eqb, length, get_or}
use Rattle.node.specs.Fields.{kind_of, first_of, second_of}
use Rattle.node.specs.Kinds.{Shape, shapes, signal_kind, shape_of}
use Rattle.node.specs.Formed.{Below}
use Rattle.language.specs.Limits.{max_name}
use Rattle.language.specs.Bytes.{if◌then◌otherwise◌}
use Rattle.signal_names.specs.Promise.{slot_bytes}
use Rattle.layout.specs.Layout.{piece, operands}

-- does an operand follow the piece?
abbrev pub following : Shape → ℕ → Bool
following s k = ltb k (operands s)

-- so many bytes, zeros after
abbrev padded : ℕ → List ℕ → List ℕ
padded zero s = []
padded (suc n) [] = 0 ∷ padded n []
padded (suc n) (b ∷ s) = b ∷ padded n s

abbrev row : Shape → ℕ → List ℕ
row s k = length (piece s k) ∷ (if following s k then 1 otherwise 0) ∷ padded 10 (piece s k)

abbrev rows : List Shape → List ℕ
rows [] = []
rows (s ∷ ss) = row s 0 ++ (row s 1 ++ (row s 2 ++ rows ss))

unfoldable pub table : List ℕ
table = rows shapes

abbrev pub row_at : ℕ → ℕ → ℕ
row_at kind done = 36 * kind + 12 * done

-- a signal's name, and an operand, in the size of a node
abbrev pub of_signal : ℕ → ℕ → ℕ
of_signal kind n = if eqb kind signal_kind then n otherwise 0

abbrev pub of_operand : Bool → ℕ → ℕ
of_operand b n = if b then n otherwise 0

-- a node whose size can be told: its signal has a size, its operands have
pub record Measurable (sizes : List ℕ) (n word : ℕ) : Type 0 where
  pub limit : ℕ
  pub listed : limit ≤ length sizes
  pub small : (k : ℕ) → k < limit → get_or sizes k 0 ≤ max_name
  pub below : Below limit (shape_of (kind_of word)) n (first_of word) (second_of word)

-- a piece that can be written: a signal's name is in its slot
pub record Writable (names sizes : List ℕ) (kind first done : ℕ) : Type 0 where
  pub start : kind ≡ signal_kind → done ≡ 0
  pub listed : kind ≡ signal_kind → first < length sizes
  pub small : kind ≡ signal_kind → get_or sizes first 0 ≤ max_name
  pub room : kind ≡ signal_kind → slot_bytes * first + max_name ≤ length names
