-- `subsections` meets its contract. The loop's invariant: the definition's answer is its answer on the tokens that are left, with the subsections so far before it,
-- and those that have stood are marked. The measure is the number of tokens left.
use Prim.Native.Nat.{◌-◌}
use Rattle.entries.specs.Headings.{no_heading}
use Rattle.entries.specs.Cursors.{Ready}
use Rattle.language.specs.Grammar.{Tokens}
use Rattle.language.specs.Sections.{subsections_of}
use Rattle.parser.proofs.Laws.SubsectionLoop.{Standing}
use lib.ListN.{length, drop}
use mathlib.Core.List.{[]}
use mathlib.Core.Path.{◌≡◌}
use Rattle.parser.proofs.subsections.subsections.Given as goal

abbrev pub invariant-loop-work : goal.invariant-loop-work
invariant-loop-work l =
    (length l.before ≡ no_heading) × ((ts : Tokens) → Ready ts l.initial.work l.initial.d → Standing (subsections_of 9 [] (drop l.initial.d.at ts)) l.before ts l.initial.work l.work l.initial.d l.d)

abbrev pub decreases-loop-work : goal.decreases-loop-work
decreases-loop-work l = l.d.count - l.d.at
