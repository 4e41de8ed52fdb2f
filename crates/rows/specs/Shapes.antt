-- Nodes by their shapes: the row, the operands that are used.
use Rattle.std.specs.Prelude.{ℕ, ◌<◌, Bool, true, false, ◌≡◌}
use Rattle.node.specs.Kinds.{Shape, Truth, Falsehood, Atom, UnaryOf, BinaryOf, Unused}
use Rattle.bits.specs.Bits.{Values}
use Rattle.rows.specs.Row.{row_unary, row_binary}

-- the row of a node, from its operands' rows
abbrev pub shape_row : ℕ → ℕ → (ℕ → ℕ → Bool) → Shape → ℕ → Values → Values → Values
shape_row n l letter Truth x a b p = true
shape_row n l letter Falsehood x a b p = false
shape_row n l letter Atom x a b p = letter p x
shape_row n l letter (UnaryOf o) x a b p = row_unary n l o a p
shape_row n l letter (BinaryOf o) x a b p = row_binary n l o a b p
shape_row n l letter Unused x a b p = true

-- what a shape has of operands
abbrev pub Uses : Shape → Type 0 → Type 0 → Type 0
Uses Truth A B = Unit {0}
Uses Falsehood A B = Unit {0}
Uses Atom A B = Unit {0}
Uses (UnaryOf o) A B = A
Uses (BinaryOf o) A B = A × B
Uses Unused A B = ⊥

-- two rows agree at the positions of the lasso
abbrev pub Agree : ℕ → Values → Values → Type 0
Agree n a b = (q : ℕ) → q < n → a q ≡ b q
