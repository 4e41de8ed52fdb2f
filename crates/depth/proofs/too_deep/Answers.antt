use mathlib.Core.Path.{refl}
use native.Mathlib.Omega.{arith}
use Rattle.traversal.specs.Places.{placed}
use Rattle.depth.specs.ReachedLaws.{reached_none}
use Rattle.depth.specs.ProgressLaws.{passed-all}
use Rattle.depth.proofs.too_deep.Goals as goal

pub loop-i-init : goal.loop-i-init
unfolding placed
loop-i-init c = reached_none c.args.work.now _ _ _ c.requires.0 refl refl refl

pub pass-p-requires : goal.pass-p-requires
pass-p-requires c =
    (c.loop-i.invariant, omega (arith, c.loop-i-test.true, c.requires.1))

pub returns : goal.returns
returns c =
    passed-all c.args.work.now c.args.entries c.loop-i.i c.loop-i.p c.loop-i.levels c.loop-i.starts c.loop-i.invariant
    (omega arith) c.loop-i-test.false
