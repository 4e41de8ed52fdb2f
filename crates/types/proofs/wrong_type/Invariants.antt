-- The table first, then the pass from entry to entry: what has run is the definition's, and at the end that has found the first place.
use Prim.Native.Nat.{◌-◌}
use Rattle.types.specs.Running.{Ran}
use Rattle.types.proofs.wrong_type.Given as goal

abbrev pub invariant-loop-i : goal.invariant-loop-i
invariant-loop-i l = Ran l.refs l.work l.entries l.i l.p l.types l.starts l.table

abbrev pub decreases-loop-i : goal.decreases-loop-i
decreases-loop-i l = l.entries - l.i
