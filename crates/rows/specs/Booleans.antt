-- What `!`, `&&`, `||`, `->` and `<->` make of n bytes of their operands' rows, all bits at once, and the same byte by byte: 'eight bytes as one 64-bit word, with the odd
-- bytes at the row's end done singly. Each word step equals the eight byte steps it stands for' (document 02, F-4). Laws in BooleanLaws.
use Rattle.std.specs.Prelude.{ℕ, zero, suc, ◌+◌, ◌*◌, ◌-◌, ◌/◌, ◌^◌, ◌≤◌, List, length, get_or, set}
use Rattle.std.specs.Int.Bits.{bit_and, bit_or, bit_xor}
use Rattle.node.specs.Ltl.{Unary, Not, X, G, F, Binary, And, Or, Implies, Iff, U, R, W}
use Rattle.node.specs.Kinds.{Shape, Truth, Falsehood, Atom, UnaryOf, BinaryOf, Unused}
use Rattle.rows.specs.Memory.{row_bytes, rows_limit}
use Rattle.rows.specs.declared.Op.{Op}

-- the bits of n bytes turned over
abbrev pub flip : ℕ → ℕ → ℕ
flip n x = 256 ^ n - 1 - x

abbrev pub bytes_unary : Unary → ℕ → ℕ → ℕ
bytes_unary Not n x = flip n x
bytes_unary X n x = 0
bytes_unary G n x = 0
bytes_unary F n x = 0

abbrev pub bytes_binary : Binary → ℕ → ℕ → ℕ → ℕ
bytes_binary And n x y = bit_and x y
bytes_binary Or n x y = bit_or x y
bytes_binary Implies n x y = bit_or (flip n x) y
bytes_binary Iff n x y = flip n (bit_xor x y)
bytes_binary U n x y = 0
bytes_binary R n x y = 0
bytes_binary W n x y = 0

-- a step on n bytes
abbrev pub bytes_of : Shape → ℕ → ℕ → ℕ → ℕ
bytes_of Truth n x y = 0
bytes_of Falsehood n x y = 0
bytes_of Atom n x y = 0
bytes_of (UnaryOf o) n x y = bytes_unary o n x
bytes_of (BinaryOf o) n x y = bytes_binary o n x y
bytes_of Unused n x y = 0

-- n steps on one byte each: from the bytes of `rows` at a and b on to those at c on
unfoldable pub byte_steps : Shape → List ℕ → ℕ → ℕ → ℕ → ℕ → List ℕ
byte_steps s rows a b c zero = rows
byte_steps s rows a b c (suc n) = set (byte_steps s rows a b c n) (c + n) (bytes_of s 1 (get_or rows (a + n) 0) (get_or rows (b + n) 0))

-- a byte with its s low bits 0
abbrev pub blanked : ℕ → ℕ → ℕ
blanked x s = x / 2 ^ s * 2 ^ s

-- the bytes of two operands lie before the `count` bytes at `base`, and all in the buffer
pub record Bound (rows : List ℕ) (op : Op) (base count : ℕ) : Type 0 where
  pub first_in_lem : op.first + count ≤ base
  pub second_in : op.second + count ≤ base
  pub room : base + count ≤ length rows
  pub low : base ≤ rows_limit + row_bytes
  pub few : count ≤ row_bytes
