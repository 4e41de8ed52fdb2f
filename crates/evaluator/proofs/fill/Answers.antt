use mathlib.Core.Path.{◌≡◌, refl}
use native.Mathlib.Omega.{arith}
use lib.ListN.{length, length-set}
use Rattle.evaluator.proofs.EvaluatedLaws.{evaluated_none, evaluated_more, turn_of}
use Rattle.evaluator.proofs.fill.Goals as goal

pub loop-i-init : goal.loop-i-init
loop-i-init c = (refl, evaluated_none _ _ _ _)

pub row_like-requires : goal.row_like-requires
row_like-requires c =
    let loop = c.loop-i in
    turn_of c.args.nodes.now c.args.recording.now c.args.lasso loop.i c.requires loop.invariant.1 (omega arith)

pub loop-i-preserved : goal.loop-i-preserved
loop-i-preserved c =
    let loop = c.loop-i in
    (simp length-set loop.invariant.0, evaluated_more c.args.recording.now c.args.lasso c.args.nodes.now loop.i loop.invariant.1 c.row_like.ensures)

pub shape_of-rows : goal.shape_of-rows
shape_of-rows c = c.loop-i.invariant.1.size

pub returns : goal.returns
returns c =
    let loop = c.loop-i in
    let e : loop.i ≡ length c.args.nodes.now = omega arith in rw e at loop.invariant.1
