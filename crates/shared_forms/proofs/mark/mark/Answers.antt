use mathlib.Core.Path.{refl, ◌∙◌}
use native.Mathlib.Omega.{arith}
use Rattle.shared_forms.specs.MarkLaws.{marking-at}
use Rattle.shared_forms.proofs.mark.mark.Goals as goal

pub overflow_mul-x : goal.overflow_mul-x
overflow_mul-x c = let f = c.requires.1.formed.few in record { fits = omega arith }

pub loop-x-init : goal.loop-x-init
loop-x-init c = (refl, (omega arith, c.requires.1))

pub ask-requires : goal.ask-requires
ask-requires c =
    let i = c.loop-x.invariant.1 in
    let t = c.loop-x-test.true in
    let l = i.0 in
    (c.requires.0, (omega arith, marking-at (omega arith) i.1))

pub loop-x-smaller : goal.loop-x-smaller
loop-x-smaller c = let t = c.loop-x-test.true in omega arith

pub loop-x-preserved : goal.loop-x-preserved
loop-x-preserved c =
    let inv = c.loop-x.invariant in
    let l = inv.1.0 in
    (c.notes-1.given ∙ inv.0, (omega arith, c.ask.ensures))

pub returns : goal.returns
returns c = let l = c.loop-x-test.false in marking-at (omega arith) c.loop-x.invariant.1.1
