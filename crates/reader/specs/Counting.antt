-- How many lines the sections of an accepted text have.
use Rattle.std.specs.Prelude.{ℕ, List, ◌≡◌, Ok}
use Rattle.language.specs.Tree.{Spec}
use Rattle.language.specs.DeclaredNames.{Declarations}
use Rattle.language.specs.Lines.{lines}
use Rattle.ending.specs.Finishing as Ending
use Rattle.line_counts.specs.Promise.{CountsOf}
use Rattle.reader.specs.declared.expansion.Counted.{Counted}

-- the answer on a text, its declarations given, and the counts of one that is accepted
pub record Finishes (x : Spec) (d : Declarations) (nodes signals nodes' signals' : List ℕ) (r : Counted) : Type 0 where
  pub finishes : Ending.Finishes x d nodes signals nodes' signals' r.answer
  pub lines : (n s : ℕ) → r.answer ≡ Ok (n, s) → CountsOf x d r.lines
