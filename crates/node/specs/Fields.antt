-- A node's word and its fields (document 01, 'Expansion'). Laws in FieldLaws.
use Rattle.std.specs.Prelude.{ℕ}
use Rattle.node.specs.Limits.{field_bits}
pub use Rattle.node.specs.BitFields.{join, above, below}

-- 'A node is 32 bits, most significant first: 4 kind, 14 first operand, 14 second'
abbrev pub pack : ℕ → ℕ → ℕ → ℕ
pack kind first second = join field_bits (join field_bits kind first) second

abbrev pub kind_of : ℕ → ℕ
kind_of x = above field_bits (above field_bits x)

abbrev pub first_of : ℕ → ℕ
first_of x = below field_bits (above field_bits x)

abbrev pub second_of : ℕ → ℕ
second_of x = below field_bits x
