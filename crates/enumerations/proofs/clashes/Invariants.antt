-- From row to row: whether the word clashes with a row is whether it does with one of the rest.
use mathlib.Core.Path.{◌≡◌}
use lib.ListN.{take}
use lib.Seq.{slice}
use Rattle.enumerations.specs.Clashes.{clash_rows}
use Rattle.enumerations.proofs.clashes.Given as goal

abbrev pub invariant-loop-i : goal.invariant-loop-i
invariant-loop-i l = clash_rows l.n l.owner (take l.n l.row) (slice l.i l.count l.owners) (slice l.i l.count l.rows) ≡ clash_rows l.n l.owner (take l.n l.row) (take l.count l.owners) (take l.count l.rows)
