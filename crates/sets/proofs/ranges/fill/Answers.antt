use native.Mathlib.Omega.{arith}
use mathlib.Core.Path.{◌≡◌}
use native.Mathlib.Numerals.{add-one}
use lib.ListN.{length-set}
use Rattle.sets.specs.RangeLaws.{filled_more}
use Rattle.sets.proofs.ranges.fill.Goals as goal

pub loop-i-preserved : goal.loop-i-preserved
loop-i-preserved c =
    (rw add-one (filled_more _ _ _ _ _ c.loop-i.invariant.0 (omega arith)), simp length-set c.loop-i.invariant.1)

pub returns : goal.returns
returns c =
    let last : c.loop-i.i ≡ c.args.n = omega arith in rw last at c.loop-i.invariant.0.there
