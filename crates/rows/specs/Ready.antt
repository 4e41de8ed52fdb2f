-- What the functions that fill a row require, and how the kinds are told apart there.
use Rattle.std.specs.Prelude.{ℕ, ◌+◌, ◌≤◌, ◌<◌, ◌≡◌, Bool, ◌⊎◌, List, length}
use Rattle.node.specs.Ltl.{Not, X, G}
use Rattle.node.specs.Kinds.{Shape, Truth, Falsehood, Atom, UnaryOf, BinaryOf, Unused, shape_of, kind_count, unary_kind}
use Rattle.recordings.specs.Limits.{max_positions}
use Rattle.rows.specs.Shapes.{Uses, shape_row}
use Rattle.rows.specs.Memory.{rows_limit, bits_at}
use Rattle.bits.specs.Bits.{Values, width}
use Rattle.recordings.specs.Recording.{letter_of}
use Rattle.recordings.specs.Promise.{Recorded}
use Rattle.rows.specs.Steps.{step_of, pair_of, loop_of}
use Rattle.recordings.specs.declared.Lasso.{Lasso}
use Rattle.rows.specs.declared.Op.{Op}

-- an operator whose operands' rows lie before `base`
pub record Ready (bs rows : List ℕ) (w : Lasso) (op : Op) (base : ℕ) : Type 0 where
  pub recorded : Recorded bs w
  pub room : base + width w.n ≤ length rows
  pub low : base ≤ rows_limit
  pub uses : Uses (shape_of op.kind) (op.first + width w.n ≤ base) (op.second + width w.n ≤ base)

-- a row of n bits at byte `at` lies in the buffer
abbrev pub Inside : ℕ → ℕ → List ℕ → Type 0
Inside n at rows = (at + width n ≤ length rows) × (at ≤ rows_limit)

-- an operator whose operands' rows can be read
pub record Operands (bs rows : List ℕ) (w : Lasso) (op : Op) : Type 0 where
  pub recorded : Recorded bs w
  pub uses : Uses (shape_of op.kind) (Inside w.n op.first rows) (Inside w.n op.second rows)

-- the row of a node, from the rows in the buffer
abbrev pub op_row : List ℕ → List ℕ → Lasso → Op → Values
op_row bs rows w op = shape_row w.n w.l (letter_of bs w.k) (shape_of op.kind) op.signal (bits_at rows op.first) (bits_at rows op.second)

-- the operand that an operator looks at besides its first: one of a single operand looks at that again
abbrev pub partner : Shape → ℕ → ℕ → ℕ
partner Truth x y = y
partner Falsehood x y = y
partner Atom x y = y
partner (UnaryOf o) x y = x
partner (BinaryOf o) x y = y
partner Unused x y = y

abbrev pub pair_op : Op → Op
pair_op op = record { kind = op.kind; signal = op.signal; first = op.first; second = partner (shape_of op.kind) op.first op.second }

-- the rows of two operands, n positions long, lie before the one at `base`, and all in the buffer
pub record Placed (rows : List ℕ) (n : ℕ) (op : Op) (base : ℕ) : Type 0 where
  pub few : n ≤ max_positions
  pub room : base + width n ≤ length rows
  pub low : base ≤ rows_limit
  pub first_in_lem : op.first + width n ≤ base
  pub second_in : op.second + width n ≤ base

-- the kinds in their order: constants and signals, operators that look at one position, X, operators that go round the loop
abbrev pub BooleanKind : ℕ → Type 0
BooleanKind k = (unary_kind Not ≤ k) × (k < unary_kind X)

abbrev pub TemporalKind : ℕ → Type 0
TemporalKind k = (unary_kind G ≤ k) × (k < kind_count)

-- an operator of each group; constants, signals and X are the plain ones
abbrev pub Plain : Op → Type 0
Plain op = (op.kind < unary_kind Not) ⊎ (op.kind ≡ unary_kind X)

abbrev pub Boolean : Op → Type 0
Boolean op = BooleanKind op.kind

abbrev pub Temporal : Op → Type 0
Temporal op = TemporalKind op.kind

-- the step at a position, from the rows in the buffer
abbrev pub row_step : List ℕ → ℕ → ℕ → ℕ → ℕ → Bool → Bool
row_step rows kind first second q v = step_of (shape_of kind) (bits_at rows first q) (bits_at rows second q) v

abbrev pub op_step : List ℕ → Op → ℕ → Bool → Bool
op_step rows op = row_step rows op.kind op.first op.second

-- the rows of operators that look at one position, and of those that go round the loop
abbrev pub pair_row : List ℕ → Op → Values
pair_row rows op p = pair_of (shape_of op.kind) (bits_at rows op.first p) (bits_at rows op.second p)

abbrev pub loop_row : List ℕ → Lasso → Op → Values
loop_row rows w op = loop_of w.n w.l (shape_of op.kind) (bits_at rows op.first) (bits_at rows op.second)
