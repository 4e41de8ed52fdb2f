-- From row to row: those so far are kept that admit the bit.
use Rattle.choices.specs.CoverageLaws.{Keeping}
use Rattle.choices.proofs.coverage.after.Given as goal

abbrev pub invariant-loop-row : goal.invariant-loop-row
invariant-loop-row l = Keeping l.holds l.rows l.i l.width l.row-index l.kept l.k
