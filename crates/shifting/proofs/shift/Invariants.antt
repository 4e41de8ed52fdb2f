-- `shift` meets its contract. The loop's invariant: `Passing`, for the first i nodes.
use Rattle.shifting.specs.Passing.{late_by}
use Rattle.shifting.specs.LoopLaws.{Passing}
use Rattle.shifting.proofs.shift.Given as goal

abbrev pub invariant-loop-i : goal.invariant-loop-i
invariant-loop-i l = Passing (late_by l.outputs l.list) l.table l.initial.out l.out l.numbers l.at l.i
