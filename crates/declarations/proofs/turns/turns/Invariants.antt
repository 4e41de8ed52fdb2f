-- `turns` meets its contract: the declarations from position j on wait for their turn.
use Prim.Native.Nat.{◌≤◌}
use mathlib.Core.Path.{◌≡◌}
use lib.ListN.{length}
use Rattle.declarations.specs.Turns.{Before}
use Rattle.declarations.specs.TurnsLoop.{Looping}
use Rattle.declarations.proofs.turns.turns.Given as goal

abbrev pub invariant-loop-j : goal.invariant-loop-j
invariant-loop-j l =
    (((length l.memory ≡ length l.initial.memory) ×
    ((length l.table ≡ length l.initial.table) × ((length l.sorts ≡ length l.initial.sorts) × ((length l.numbers ≡ length l.initial.numbers) × (length l.widths ≡ length l.initial.widths))))) ×
    ((l.initial.j ≤ l.j) × Before l.initial.j l.initial.widths l.widths)) ×
    Looping l.source.text.now l.source.work.now l.source.refs.now l.places l.enumerations l.initial.j l.to l.entries l.initial.sorts l.initial.numbers l.j l.sorts l.numbers l.widths
