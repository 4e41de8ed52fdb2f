-- `sweep_spans` meets its contract: from span k on the row has the values of the pass, and c is the one at its first position; where an earlier pass has filled
-- the row and the value at a first position is the one that stood there, nothing below can change.
use Prim.Native.Nat.{◌+◌, ◌*◌}
use Rattle.rows.specs.Ready.{row_step}
use Rattle.rows.specs.SweepingLaws.{Passed}
use Rattle.rows.proofs.around.sweep_spans.Given as goal

abbrev pub invariant-loop-k : goal.invariant-loop-k
invariant-loop-k l =
    Passed (l.from + l.size * l.count) l.base (row_step l.initial.rows l.kind l.first l.second) l.v l.c (l.from + l.size * l.k) l.initial.rows l.rows
