use mathlib.Core.Path.{refl, ◌∙◌}
use native.Mathlib.Omega.{arith}
use lib.ListN.{length-set}
use Rattle.node.proofs.ReturnedLaws.{raised}
use Rattle.declarations.specs.ExpressionLaws.{room-still}
use Rattle.declarations.specs.TurnsLaws.{before-set}
use Rattle.declarations.specs.TurnsLoop.{looping_starts, looping-inside, looping-small, looping-sizable, looping-stopped, looping-more, looping-all}
use Rattle.declarations.specs.LengthLaws.{before_refused, before_sized, sized_refused, sized_noted}
use Rattle.declarations.proofs.turns.turns.Goals as goal

pub loop-j-init : goal.loop-j-init
loop-j-init c = (((refl, (refl, (refl, (refl, refl)))), (omega arith, λ i l. refl)), looping_starts _)

pub bounds-source-own : goal.bounds-source-own
bounds-source-own c =
    let k = looping-inside c.loop-j.invariant.1 c.requires c.loop-j-test.true c.from-own.ensures in
    omega (arith, c.requires.room.refs_room)

pub width_of-requires : goal.width_of-requires
width_of-requires c =
    let kept = c.loop-j.invariant.0.0 in
    looping-sizable c.loop-j.invariant.1 c.requires c.loop-j-test.true c.from-own.ensures c.from-enumeration.ensures
    (room-still _ _ _ _ kept.1.1.0 kept.1.1.1.0 kept.0 kept.1.0 c.requires.room)

pub returns-in_err-n : goal.returns-in_err-n
returns-in_err-n c =
    let out = raised c.from_residual.ensures in (
      looping-stopped c.loop-j.invariant.1 c.loop-j-test.true c.from-own.ensures c.from-enumeration.ensures c.width_of.ensures.0 c.in_err-n.was out,
      (before_refused _ _ out, sized_refused out),
    )

pub bounds-sorts-r : goal.bounds-sorts-r
bounds-sorts-r c =
    let r = looping-small c.loop-j.invariant.1 c.requires c.loop-j-test.true c.from-own.ensures c.from-r.ensures in
    omega arith

pub bounds-numbers-r : goal.bounds-numbers-r
bounds-numbers-r c =
    let r = looping-small c.loop-j.invariant.1 c.requires c.loop-j-test.true c.from-own.ensures c.from-r.ensures in
    omega arith

pub loop-j-preserved : goal.loop-j-preserved
loop-j-preserved c =
    let width = c.width_of in
    let kept = c.loop-j.invariant.0.0 in
    let room = c.requires.room in
    let from = c.loop-j.invariant.0.1 in (
      (
        (width.auto.memory ∙ kept.0, (width.ensures.1 _ c.in_ok-n.was ∙ kept.1.0, (simp length-set kept.1.1.0, (simp length-set kept.1.1.1.0, simp length-set kept.1.1.1.1)))),
        (omega (arith, from.0), before-set c.args.heading.from c.loop-j.j c.in_ok-n.n c.args.heading.widths c.loop-j.widths from.0 from.1),
      ),
      looping-more c.loop-j.invariant.1 c.loop-j-test.true c.from-own.ensures c.from-enumeration.ensures width.ensures.0 c.in_ok-n.was c.from-r.ensures c.sort_of.ensures
          (omega (arith, kept.1.1.0, room.sorts_full)) (omega (arith, kept.1.1.1.0, room.numbers_full))
          (omega (arith, kept.1.1.1.1, c.requires.widths_full, c.requires.few, c.loop-j-test.true)),
    )

pub returns : goal.returns
returns c =
    let kept = c.loop-j.invariant.0.0 in
    let room = c.requires.room in (
      looping-all c.loop-j.invariant.1 c.loop-j-test.false,
      (
        before_sized _ _ c.loop-j.invariant.0.1.1,
        sized_noted kept.1.0 (kept.1.1.0 ∙ room.sorts_full) (kept.1.1.1.0 ∙ room.numbers_full) (kept.1.1.1.1 ∙ c.requires.widths_full),
      ),
    )
