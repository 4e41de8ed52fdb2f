-- The literals of a word's marks, by the first signal's number.
use Rattle.std.specs.Prelude.{ℕ, Bool, true, false, List, map}
use Rattle.node.specs.Operators.{Not}
use Rattle.node.specs.Ltl.{Formula, Signal, One}
use Rattle.language.specs.DeclaredNames.{Port}
use Rattle.language.specs.Numbering.{Mark, Absent, Present, Star, mark_of}
use Rattle.language.specs.Expansion.{conjunction, literals}

abbrev pub is_star : Mark → Bool
is_star Absent = false
is_star Present = false
is_star Star = true

-- signal k, or that it is absent
abbrev pub literal : Bool → ℕ → Formula
literal true k = Signal k
literal false k = One Not (Signal k)

-- a word of these bytes
abbrev pub matching : List Port → List ℕ → List ℕ → Formula
matching ps x row = conjunction (literals ps x 0 (map mark_of row))
