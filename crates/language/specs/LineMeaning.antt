-- The lines of a section, and what each means by itself: in the words of Meaning, of the lines as Lines lists them.
use Rattle.std.specs.Prelude.{true, false, List, [], ◌∷◌, ◌++◌, eqb}
use Rattle.node.specs.Temporal.{Property}
use Rattle.language.specs.Tree.{Part, part_code}
use Rattle.language.specs.Lines.{Line, Written, Implied}
use Rattle.language.specs.Meaning.{Word, MatchesOne, Sense, Means}

-- a line's own meaning: a written one's is its expression's, an implied one's that the bus has one of its words
abbrev pub LineMeans : Sense → Line → Word → Property
LineMeans s (Written e) w t = Means s e w t
LineMeans s (Implied p) w t = MatchesOne p.name.text p.words w t

-- the lines of a section, in the order of the text
abbrev pub part_lines : Part → List (Part × List Line) → List Line
part_lines q [] = []
part_lines q (s ∷ ss) = elim (eqb (part_code q) (part_code s.0)) [ true ↦ s.1 ++ part_lines q ss | false ↦ part_lines q ss ]
