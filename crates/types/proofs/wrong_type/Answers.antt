use mathlib.Core.Path.{refl}
use native.Mathlib.Omega.{arith}
use Rattle.traversal.specs.Places.{placed}
use Rattle.types.specs.RunningLaws.{ran_none, ran_more, ran_all}
use Rattle.types.proofs.wrong_type.Goals as goal

pub declare_all-requires : goal.declare_all-requires
declare_all-requires c =
    (c.requires.0, c.requires.1, refl, c.requires.2)

pub loop-i-init : goal.loop-i-init
unfolding placed
loop-i-init c =
    ran_none c.args.refs.now c.args.work.now c.args.entries _ _ _ _ c.requires.0 refl refl c.declare_all.ensures refl

pub pass-p-requires : goal.pass-p-requires
pass-p-requires c =
    (c.loop-i.invariant.sized, omega (arith, c.loop-i-test.true, c.requires.1), c.requires.2)

pub loop-i-preserved : goal.loop-i-preserved
loop-i-preserved c =
    ran_more _ _ _ _ c.loop-i.invariant c.pass-p.ensures (omega (arith, c.loop-i-test.true))

pub returns : goal.returns
returns c = ran_all c.loop-i.invariant c.loop-i-test.false
