-- `lines` meets its contract. The loop's invariant: the cursor is at the token before a line, the definition's answer is its answer on the tokens that are
-- left, with the lines so far before it, and their entries are written. The measure is the number of tokens left.
use Prim.Native.Nat.{◌-◌, ◌<◌}
use Rattle.language.specs.Grammar.{rest}
use Rattle.language.specs.Sections.{lines_of}
use Rattle.parser.proofs.Laws.Blocks.{behind}
use Rattle.parser.proofs.Laws.Loops.{Lists}
use Rattle.parser.specs.Lines.{line_of, flat_of}
use lib.ListN.{length}
use Rattle.parser.proofs.blocks.lines.Given as goal

abbrev pub invariant-loop-which : goal.invariant-loop-which
invariant-loop-which l =
    (l.d.at < l.d.count) × Lists (flat_of l.which) 1 (behind l.which) (λ ts. lines_of (length (rest ts)) (line_of l.which) (rest ts)) l.initial.work l.work l.initial.d l.d

abbrev pub decreases-loop-which : goal.decreases-loop-which
decreases-loop-which l = l.d.count - l.d.at
