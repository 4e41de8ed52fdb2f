-- A formula's nodes moved to another place of a table: the operands' numbers change by as much as the place, and nothing else.
use Rattle.std.specs.Prelude.{ℕ, ◌+◌, ◌-◌, ◌*◌}
use Rattle.node.specs.Limits.{field_limit}
use Rattle.node.specs.Fields.{kind_of}
use Rattle.node.specs.Kinds.{Shape, Truth, Falsehood, Atom, UnaryOf, BinaryOf, Unused, shape_of}

-- by how much a node's word grows where each of its operands' numbers grows by one
abbrev pub weight : Shape → ℕ
weight Truth = 0
weight Falsehood = 0
weight Atom = 0
weight (UnaryOf o) = field_limit
weight (BinaryOf o) = field_limit + 1
weight Unused = 0

-- a node whose operands are numbered from `to` on where they were numbered from `from` on
unfoldable pub moved : ℕ → ℕ → ℕ → ℕ
moved from to w = w - from * weight (shape_of (kind_of w)) + to * weight (shape_of (kind_of w))
