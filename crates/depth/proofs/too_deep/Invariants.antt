-- The pass from entry to entry: what it has reached is the definition's state, and at the end that has found the first place.
use Rattle.depth.specs.Progress.{Reached}
use Rattle.depth.proofs.too_deep.Given as goal

abbrev pub invariant-loop-i : goal.invariant-loop-i
invariant-loop-i l = Reached l.work l.i l.p l.levels l.starts
