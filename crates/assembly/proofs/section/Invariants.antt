-- `section` meets its contract. The loop's invariant: the lines before are passed, and those of the part are folded.
use mathlib.Core.List.{List}
use Rattle.node.specs.Ltl.{Formula}
use Rattle.language.specs.Tree.{Part}
use Rattle.assembly.specs.Gathered.{Lined}
use Rattle.assembly.specs.Folding.{Passed}
use Rattle.assembly.proofs.section.Given as goal

abbrev pub invariant-loop-line : goal.invariant-loop-line
invariant-loop-line l =
    (ls : List (Part × Formula)) → Lined ls l.lines l.count l.table → Passed l.part ls l.table l.initial.out l.out l.at l.line-index l.start l.f
