-- The lines of a text's sections: the written ones in the text's order, the implied ones after them (document 01, 'Expansion'). The expansion's side alone.
use Rattle.std.specs.Prelude.{Bool, true, false, not, List, [], ◌∷◌, map}
use Rattle.language.specs.Tokens.{Token}
use Rattle.language.specs.Tree.{Expr, Part, Require, Assert, Subsection, Inputs, Outputs, Lines, Spec}
use Rattle.language.specs.DeclaredNames.{word_width, Port, Declarations}
use Rattle.language.specs.Numbering.{marks_of, covered}

-- a line of a section: a written one, or an implied one, that a bus matches one of its enumeration's words
pub data Line : Type 0 where
  Written : Expr → Line
  Implied : Port → Line

-- 'an enumeration that leaves some word unnamed'
abbrev pub leaves_unnamed : List Token → Bool
leaves_unnamed [] = false
leaves_unnamed (v ∷ vs) = not (covered (word_width (v ∷ vs)) (map marks_of (v ∷ vs)))

-- 'A bus declared by an enumeration that leaves some word unnamed adds ..'
abbrev pub implied : List Port → List Line
implied [] = []
implied (p ∷ ps) = elim (leaves_unnamed p.words) [ true ↦ Implied p ∷ implied ps | false ↦ implied ps ]

abbrev pub written_lines : List Subsection → List (Part × List Line) → List (Part × List Line)
written_lines [] rest = rest
written_lines (Inputs ds ∷ ss) rest = written_lines ss rest
written_lines (Outputs ds ∷ ss) rest = written_lines ss rest
written_lines (Lines p es ∷ ss) rest = (p, map Written es) ∷ written_lines ss rest

-- 'to REQUIRE for inputs, to ASSERT for outputs, after the written lines, in signal order'
abbrev pub lines : Spec → Declarations → List (Part × List Line)
lines x d = written_lines x.main ((Require, implied d.inputs) ∷ (Assert, implied d.outputs) ∷ [])
