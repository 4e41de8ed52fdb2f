-- The numbers of MAIN's subsections, under which their headings stand among the entries: INPUTS, OUTPUTS, then the parts that hold lines.
use Rattle.std.specs.Prelude.{ℕ, List, [], ◌∷◌}

abbrev pub inputs : ℕ
inputs = 0

abbrev pub outputs : ℕ
outputs = 1

-- the first part's; the others have theirs behind it, in the order of language/Tree `part_code`
abbrev pub first_part : ℕ
first_part = 2

-- how many subsections there are: a number that none of them has
abbrev pub no_heading : ℕ
no_heading = 8

-- what the code's constants stand for
abbrev pub headings : List ℕ
headings = inputs ∷ outputs ∷ first_part ∷ no_heading ∷ []
