-- The words of Table 1's rows: the widths of their fields, how a word is packed, and what it holds.
use Rattle.std.specs.Prelude.{ℕ, ◌+◌, ◌^◌, List, [], ◌∷◌}
use Rattle.node.specs.BitFields.{join, above, below}
use Rattle.entries.specs.Kinds.{kind_bits}

-- the bits of a level, of which Table 1 has 17, and of a role; a kind has as many as in an entry
abbrev pub level_bits : ℕ
level_bits = 5

abbrev pub role_bits : ℕ
role_bits = 3

-- an operator between operands: its code, its entry's kind, the loosest level of its right operand, its level
abbrev pub pack_infix : ℕ → ℕ → ℕ → ℕ → ℕ
pack_infix code kind right level = join level_bits (join level_bits (join kind_bits code kind) right) level

-- an operator before its operand: its code, the kind of its entry with a window or a count, without, its role, its level
abbrev pub pack_prefix : ℕ → ℕ → ℕ → ℕ → ℕ → ℕ
pack_prefix code window sole role level = join level_bits (join role_bits (join kind_bits (join kind_bits code window) sole) role) level

-- how many bits stand below a field
abbrev pub right_shift : ℕ
right_shift = level_bits

abbrev pub kind_shift : ℕ
kind_shift = level_bits + right_shift

abbrev pub infix_shift : ℕ
infix_shift = kind_bits + kind_shift

abbrev pub role_shift : ℕ
role_shift = level_bits

abbrev pub sole_shift : ℕ
sole_shift = role_bits + role_shift

abbrev pub window_shift : ℕ
window_shift = kind_bits + sole_shift

abbrev pub prefix_shift : ℕ
prefix_shift = kind_bits + window_shift

-- what a row's word holds: its level
abbrev pub level_field : ℕ → ℕ
level_field x = below level_bits x

-- of an operator between operands
abbrev pub right_field : ℕ → ℕ
right_field x = below level_bits (above right_shift x)

abbrev pub kind_field : ℕ → ℕ
kind_field x = below kind_bits (above kind_shift x)

abbrev pub infix_field : ℕ → ℕ
infix_field x = above infix_shift x

-- of an operator before its operand
abbrev pub role_field : ℕ → ℕ
role_field x = below role_bits (above role_shift x)

abbrev pub sole_field : ℕ → ℕ
sole_field x = below kind_bits (above sole_shift x)

abbrev pub window_field : ℕ → ℕ
window_field x = below kind_bits (above window_shift x)

abbrev pub prefix_field : ℕ → ℕ
prefix_field x = above prefix_shift x

-- the roles by number
abbrev pub plain_role : ℕ
plain_role = 1

abbrev pub counted_role : ℕ
counted_role = 2

abbrev pub windowed_role : ℕ
windowed_role = 3

abbrev pub folding_role : ℕ
folding_role = 4

-- what the code's constants stand for
abbrev pub fields : List ℕ
fields =
    2 ^ level_bits ∷ 2 ^ right_shift ∷ 2 ^ kind_shift ∷ 2 ^ infix_shift ∷ 2 ^ role_shift ∷ 2 ^ sole_shift ∷ 2 ^ window_shift ∷ 2 ^ prefix_shift ∷
    2 ^ role_bits ∷ plain_role ∷ counted_role ∷ windowed_role ∷ folding_role ∷ []
