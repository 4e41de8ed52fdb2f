-- `copy_from` meets its contract. The loop's invariant: the first i nodes are stored, moved.
use mathlib.Core.Path.{◌≡◌}
use lib.Seq.{sets}
use Rattle.writing.specs.Parts.{moves}
use Rattle.writing.proofs.copies.copy_from.Given as goal

abbrev pub invariant-loop-i : goal.invariant-loop-i
invariant-loop-i l = l.out ≡ sets l.initial.out l.at (moves l.from l.at l.i l.table)
