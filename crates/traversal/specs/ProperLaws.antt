-- The lines of a tree that is proper are.
use Rattle.language.specs.Tree.{Subsection, Inputs, Outputs, Lines, Spec}
use Rattle.language.specs.Places.{all_lines}
use Rattle.language.specs.Braces.{ProperSubsection, ProperSpec}
use Rattle.language.proofs.Laws.Basics.Lists.{All, all_more}
use Rattle.language.proofs.Laws.Places.AllLines.{OfSubsection, lines-all}
use Rattle.traversal.specs.TreeStored.{ProperLine}

pub proper-lines : (x : Spec) → ProperSpec x → All ProperLine (all_lines x)
proper-lines x h = lines-all ProperLine x h.parameters h.definitions (all_more proper x.main h.main)
  where
    proper : (s : Subsection) → ProperSubsection s → OfSubsection ProperLine s
    proper (Inputs ds) g = g
    proper (Outputs ds) g = g
    proper (Lines p es) g = g
