-- `parameters` meets its contract: those from position j on are still to be worked out.
use mathlib.Core.Path.{◌≡◌}
use lib.ListN.{length}
use Rattle.declarations.specs.ConstantsLoop.{Looping}
use Rattle.declarations.proofs.constants.parameters.Given as goal

abbrev pub invariant-loop-j : goal.invariant-loop-j
invariant-loop-j l =
    ((length l.memory ≡ length l.initial.memory) × ((length l.table ≡ length l.initial.table) × ((length l.sorts ≡ length l.initial.sorts) × (length l.numbers ≡ length l.initial.numbers)))) ×
    Looping l.source.text.now l.source.work.now l.source.refs.now l.places l.count l.entries l.initial.sorts l.initial.numbers l.j l.sorts l.numbers
