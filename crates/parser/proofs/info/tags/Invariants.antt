-- `tags` meets its contract. The loop's invariant: the definition's answer is its answer on the tokens that are left. The measure is their number.
use Prim.Native.Nat.{◌-◌}
use Rattle.entries.specs.Cursors.{Ready}
use Rattle.language.specs.Grammar.{Tokens}
use Rattle.language.specs.Sections.{tags_of}
use Rattle.parser.proofs.Laws.InfoReads.{Tagging}
use lib.ListN.{length, drop}
use Rattle.parser.proofs.info.tags.Given as goal

abbrev pub invariant-loop-e : goal.invariant-loop-e
invariant-loop-e l =
    (ts : Tokens) → Ready ts l.work l.initial.d → Tagging (tags_of (length (drop l.initial.d.at ts)) (drop l.initial.d.at ts)) ts l.work l.initial.d l.d

abbrev pub decreases-loop-e : goal.decreases-loop-e
decreases-loop-e l = l.d.count - l.d.at
