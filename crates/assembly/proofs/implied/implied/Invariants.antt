-- `implied` meets its contract. The loop's invariant: the ports before position j are passed, and their lines added.
use mathlib.Core.List.{List}
use Rattle.language.specs.DeclaredNames.{Port}
use Rattle.assembly.specs.Implied.{Buses}
use Rattle.assembly.specs.ImpliedLaws.{Going}
use Rattle.assembly.proofs.implied.implied.Given as goal

abbrev pub invariant-loop-j : goal.invariant-loop-j
invariant-loop-j l =
    (ps qs : List Port) → Buses l.text l.work l.ports ps l.initial.r.at l.span.from l.span.to qs → Going l.span.part l.text l.work l.ports l.span.to l.initial.r l.initial.table l.initial.lines ps qs l.j l.r l.table l.lines
