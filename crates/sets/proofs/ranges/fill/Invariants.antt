-- `ranges::fill` meets its contract: the first i numbers are there, and v is the next one.
use mathlib.Core.Path.{◌≡◌}
use lib.ListN.{length}
use Rattle.sets.specs.RangeLaws.{Filled}
use Rattle.sets.proofs.ranges.fill.Given as goal

abbrev pub invariant-loop-i : goal.invariant-loop-i
invariant-loop-i l = Filled l.start l.step l.set l.v l.i × (length l.set ≡ length l.initial.set)
