-- The limits of the node format and of its signals (document 01, 'Expansion' and 'Limits').
use Rattle.std.specs.Prelude.{ℕ, ◌^◌, List, [], ◌∷◌}

-- 'a table has 1 to 8,192 nodes'
abbrev pub max_nodes : ℕ
max_nodes = 8_192

-- '4 kind': the width of a kind
abbrev pub kind_bits : ℕ
kind_bits = 4

-- one more than a kind's field can hold
abbrev pub kind_limit : ℕ
kind_limit = 2 ^ kind_bits

-- '14 first operand, 14 second': the width of a field
abbrev pub field_bits : ℕ
field_bits = 14

-- what a field can hold
abbrev pub field_limit : ℕ
field_limit = 2 ^ field_bits

-- '255 signals', of a text and of a recording
abbrev pub max_signals : ℕ
max_signals = 255

abbrev pub limits : List ℕ
limits = max_nodes ∷ field_limit ∷ max_signals ∷ []
