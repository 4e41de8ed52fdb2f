use mathlib.Core.Path.{refl, ◌∙◌}
use native.Mathlib.Omega.{arith}
use lib.ListN.{length-set}
use Rattle.node.proofs.ReturnedLaws.{raised}
use Rattle.declarations.specs.ExpressionLaws.{room-still}
use Rattle.declarations.specs.ConstantsLoop.{looping_starts, looping-inside, looping-small, looping-workable, looping-stopped, looping-more, looping-all}
use Rattle.declarations.specs.LengthLaws.{lengths_refused, lengths_noted}
use Rattle.declarations.proofs.constants.parameters.Goals as goal

pub loop-j-init : goal.loop-j-init
loop-j-init c = ((refl, (refl, (refl, refl))), looping_starts)

pub bounds-source-k : goal.bounds-source-k
bounds-source-k c =
    let k = looping-inside c.loop-j.invariant.1 c.requires c.loop-j-test.true c.from-k.ensures in
    omega (arith, c.requires.room.refs_room)

pub number_of-requires : goal.number_of-requires
number_of-requires c =
    let kept = c.loop-j.invariant.0 in
    looping-workable c.loop-j.invariant.1 c.requires c.loop-j-test.true c.from-k.ensures c.before-in-loop-j.ensures
    (room-still _ _ _ _ kept.1.1.0 kept.1.1.1 kept.0 kept.1.0 c.requires.room)

pub returns-in_err-n : goal.returns-in_err-n
returns-in_err-n c =
    let out = raised c.from_residual.ensures in
    (looping-stopped c.loop-j.invariant.1 c.loop-j-test.true c.from-k.ensures c.before-in-loop-j.ensures c.number_of.ensures c.in_err-n.was out, lengths_refused out)

pub bounds-sorts-r : goal.bounds-sorts-r
bounds-sorts-r c =
    let r = looping-small c.loop-j.invariant.1 c.requires c.loop-j-test.true c.from-k.ensures c.from-r.ensures in
    omega arith

pub bounds-numbers-r : goal.bounds-numbers-r
bounds-numbers-r c =
    let r = looping-small c.loop-j.invariant.1 c.requires c.loop-j-test.true c.from-k.ensures c.from-r.ensures in
    omega arith

pub loop-j-preserved : goal.loop-j-preserved
loop-j-preserved c =
    let told = c.number_of in
    let kept = c.loop-j.invariant.0 in
    let room = c.requires.room in (
      (told.auto.memory ∙ kept.0, (told.ensures.same _ c.in_ok-n.was ∙ kept.1.0, (simp length-set kept.1.1.0, simp length-set kept.1.1.1))),
      looping-more c.loop-j.invariant.1 c.loop-j-test.true c.from-k.ensures c.before-in-loop-j.ensures told.ensures c.in_ok-n.was c.from-r.ensures
          (omega (arith, kept.1.1.0, room.sorts_full)) (omega (arith, kept.1.1.1, room.numbers_full)),
    )

pub returns : goal.returns
returns c =
    let kept = c.loop-j.invariant.0 in
    let room = c.requires.room in (
      looping-all c.loop-j.invariant.1 c.loop-j-test.false,
      lengths_noted kept.1.0 (kept.1.1.0 ∙ room.sorts_full) (kept.1.1.1 ∙ room.numbers_full),
    )
