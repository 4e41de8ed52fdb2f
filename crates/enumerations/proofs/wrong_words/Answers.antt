use mathlib.Core.Path.{refl}
use native.Mathlib.Omega.{arith}
use Rattle.traversal.specs.Places.{placed}
use Rattle.enumerations.specs.EntryLaws.{promised}
use Rattle.enumerations.specs.Running.{ran_none, ran_more, ran_all}
use Rattle.enumerations.proofs.wrong_words.Goals as goal

pub loop-i-init : goal.loop-i-init
unfolding placed
loop-i-init c = ran_none c.args.text.now c.args.work.now c.args.entries _ _ _ refl refl refl

pub pass-p-requires : goal.pass-p-requires
pass-p-requires c =
    (c.loop-i.invariant.sized, c.requires.0, omega (arith, c.loop-i-test.true, c.requires.1), c.loop-i.invariant.owner)

pub loop-i-preserved : goal.loop-i-preserved
loop-i-preserved c =
    ran_more _ _ _ c.loop-i.invariant c.pass-p.ensures (omega (arith, c.loop-i-test.true))

pub returns : goal.returns
returns c =
    promised c.args.text.now c.args.work.now c.args.entries (ran_all c.loop-i.invariant c.loop-i-test.false)
