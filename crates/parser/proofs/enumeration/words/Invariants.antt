-- `words` meets its contract. The loop's invariant: the definition's answer is its answer on the tokens that are left, with the words so far before it, and their entries
-- are written. The measure is the number of tokens left.
use Prim.Native.Nat.{◌-◌}
use Rattle.language.specs.Sections.{words_of}
use Rattle.parser.proofs.Laws.Loops.{Lists}
use Rattle.parser.specs.Parts.{flat_word}
use lib.ListN.{length}
use Rattle.parser.proofs.enumeration.words.Given as goal

abbrev pub invariant-loop-e : goal.invariant-loop-e
invariant-loop-e l =
    Lists flat_word 0 words_of (λ ts. words_of (length ts) ts) l.initial.work l.work l.initial.d l.d

abbrev pub decreases-loop-e : goal.decreases-loop-e
decreases-loop-e l = l.d.count - l.d.at
