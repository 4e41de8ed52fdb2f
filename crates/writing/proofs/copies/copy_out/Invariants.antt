-- `copy_out` meets its contract. The loop's invariant: the first i nodes are stored, moved.
use mathlib.Core.Path.{◌≡◌}
use lib.ListN.{length}
use lib.Seq.{sets}
use Rattle.writing.specs.Parts.{moves}
use Rattle.writing.proofs.copies.copy_out.Given as goal

abbrev pub invariant-loop-i : goal.invariant-loop-i
invariant-loop-i l = (length l.res ≡ length l.initial.res) × (l.res ≡ sets l.initial.res l.at (moves l.from l.at l.i l.table))
