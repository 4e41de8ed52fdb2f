-- The limits of document 01, 'Limits' and 'Values', in one place.
use Rattle.std.specs.Prelude.{ℕ, ◌^◌, List, [], ◌∷◌}
-- '255 signals': a recording has no more either
pub use Rattle.node.specs.Limits.{max_signals}

-- 'text 32,768 bytes'
abbrev pub max_bytes : ℕ
max_bytes = 32_768

-- '8,192 tokens'
abbrev pub max_tokens : ℕ
max_tokens = 8_192

-- 'names 64 bytes'
abbrev pub max_name : ℕ
max_name = 64

-- '256 declared names'
abbrev pub max_names : ℕ
max_names = 256

-- 'expression trees 256 levels'
abbrev pub max_levels : ℕ
max_levels = 256

-- 'sets 256 elements'
abbrev pub max_elements : ℕ
max_elements = 256

-- 'buses 255 wide'
abbrev pub max_width : ℕ
max_width = 255

-- 'an enumeration at most 16 words of 8 marks'
abbrev pub max_words : ℕ
max_words = 16

abbrev pub max_marks : ℕ
max_marks = 8

-- 'Values are decimal, 0 to 1,000,000 at each step'
abbrev pub max_number : ℕ
max_number = 1_000_000

-- the work buffer's 'first 65,536 bytes'
abbrev pub work_bytes : ℕ
work_bytes = 65_536

-- 'A signal list entry is 32 bits: 1 output flag, 15 offset of the name, 8 index in the bus, 8 width'
abbrev pub offset_bits : ℕ
offset_bits = 15

abbrev pub index_bits : ℕ
index_bits = 8

abbrev pub width_bits : ℕ
width_bits = 8

-- what the code's constants stand for, in their order
abbrev pub limits : List ℕ
limits =
    max_bytes ∷ max_tokens ∷ max_name ∷ max_names ∷ max_levels ∷ max_elements ∷ max_width ∷ max_words ∷ max_marks ∷ max_number ∷ work_bytes ∷ 2 ^ offset_bits ∷ 2 ^ index_bits ∷ 2 ^ width_bits ∷ []
