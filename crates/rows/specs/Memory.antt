-- Rows in a buffer: a row of n bits starts at byte `base` and takes `width n` bytes. What has been done to one row, bit by bit.
use Rattle.std.specs.Prelude.{ℕ, ◌+◌, ◌*◌, ◌≤◌, ◌<◌, ◌≡◌, ◌⊎◌, List, length, get_or}
use Rattle.node.specs.Limits.{field_limit}
use Rattle.bits.specs.Bits.{Values, bit_at, width}
use Rattle.recordings.specs.Limits.{max_positions}
use Rattle.rows.specs.Row.{shown}

-- the bytes of the longest row
abbrev pub row_bytes : ℕ
row_bytes = width max_positions

-- such rows, as many as a node's field can number: no row begins past them
abbrev pub rows_limit : ℕ
rows_limit = row_bytes * field_limit

-- the bits from byte `base` on
abbrev pub bits_at : List ℕ → ℕ → Values
bits_at bs base p = bit_at bs (8 * base + p)

-- of `old` only the bytes from `base` on, as many as `count`, have changed
pub record Kept (base count : ℕ) (old new : List ℕ) : Type 0 where
  pub size : length new ≡ length old
  pub below : (k : ℕ) → k < base → get_or new k 0 ≡ get_or old k 0
  pub beyond : (k : ℕ) → base + count ≤ k → get_or new k 0 ≡ get_or old k 0

-- the row at `base`, n positions long, has the values f from position `from` to before `to`, and nothing else has changed
pub record Part (n base : ℕ) (f : Values) (from to : ℕ) (old new : List ℕ) : Type 0 where
  pub kept : Kept base (width n) old new
  pub here : (p : ℕ) → from ≤ p → p < to → bits_at new base p ≡ f p
  pub other : (p : ℕ) → (p < from) ⊎ (to ≤ p) → bits_at new base p ≡ bits_at old base p

abbrev pub Filled : ℕ → ℕ → Values → List ℕ → List ℕ → Type 0
Filled n base f old new = Part n base f 0 n old new

-- the whole row at `base`: the values f, and the spare bits of its last byte 0
pub record Written (n base : ℕ) (f : Values) (old new : List ℕ) : Type 0 where
  pub kept : Kept base (width n) old new
  pub right : (p : ℕ) → p < 8 * width n → bits_at new base p ≡ shown n f p

-- `done` of `count` bytes from `base` on are those from `from` on
pub record Copied (from base count done : ℕ) (old new : List ℕ) : Type 0 where
  pub kept : Kept base count old new
  pub same : (k : ℕ) → k < done → get_or new (base + k) 0 ≡ get_or old (from + k) 0
