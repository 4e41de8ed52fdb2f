use mathlib.Core.Path.{refl}
use Rattle.language.specs.Places.{first}
use Rattle.traversal.specs.Places.{place_in}
use Rattle.types.specs.CodeLaws.{found_all, found-other, found-last}
use Rattle.types.proofs.codes.misfits.Goals as goal

pub loop-i-init : goal.loop-i-init
unfolding place_in
loop-i-init c = refl

pub returns-then-i-to : goal.returns-then-i-to
returns-then-i-to c =
    found-last c.args.other c.args.last c.args.types.now c.args.starts.now c.loop-i.i c.args.to c.requires.0 c.requires.1
    c.loop-i.found _ c.loop-i.invariant c.misfit.result _ c.first.ensures c.if-i-to.true c.misfit.ensures

pub loop-i-preserved : goal.loop-i-preserved
loop-i-preserved c =
    found-other c.args.other c.args.last c.args.types.now c.args.starts.now c.loop-i.i c.args.to c.requires.0 c.requires.1
    c.loop-i.found _ c.loop-i.invariant c.misfit-in-loop-i.result _ c.first-found.ensures c.loop-i-test.true c.if-i-to.false
    c.misfit-in-loop-i.ensures

pub returns : goal.returns
returns c =
    found_all c.args.other c.args.last c.args.types.now c.args.starts.now c.loop-i.i c.args.to c.requires.0 c.requires.1
    c.loop-i.found _ c.loop-i.invariant c.loop-i-test.false
