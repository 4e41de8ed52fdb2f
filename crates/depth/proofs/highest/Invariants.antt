-- The highest of a part: what is highest so far and in the rest is the highest.
use Prim.Native.Nat.{max}
use mathlib.Core.Path.{◌≡◌}
use lib.Seq.{slice}
use Rattle.depth.specs.Depth.{highest}
use Rattle.depth.proofs.highest.Given as goal

abbrev pub invariant-loop-i : goal.invariant-loop-i
invariant-loop-i l = max l.most (highest (slice l.i l.to l.levels)) ≡ highest (slice l.from l.to l.levels)
