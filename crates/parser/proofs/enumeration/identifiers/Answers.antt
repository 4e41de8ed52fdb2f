use Rattle.node.proofs.ReturnedLaws.{raised}
use Rattle.parser.proofs.Laws.Enumerations.{identifiers-stop, identifiers-end, identifiers-again}
use Rattle.parser.proofs.Laws.Loops.{left_some, listing_start, listing_readied}
use Rattle.parser.proofs.Laws.Rows.{accepted, took_some}
use lib.ListN.{length, drop}
use mathlib.Core.Path.{refl, sym, ◌∙◌}
use native.Mathlib.Omega.{arith}
use Rattle.parser.proofs.enumeration.identifiers.Goals as goal

pub loop-e-init : goal.loop-e-init
loop-e-init c =
    λ ts ready. listing_start (length (drop c.args.c.at ts)) ready refl (omega arith) (left_some ready)

pub identifier-requires : goal.identifier-requires
identifier-requires c =
    let p = c.requires in let h = c.loop-e.invariant p.tokens p.ready in listing_readied p h

pub shape_of-work-in_err-e : goal.shape_of-work-in_err-e
shape_of-work-in_err-e c =
    let p = c.requires in let h = c.loop-e.invariant p.tokens p.ready in
    let r = c.identifier.ensures p.tokens h.going.took.ready in r.kept.len ∙ h.going.kept.len

pub returns-in_err-e : goal.returns-in_err-e
returns-in_err-e c =
    rw (raised c.from_residual.ensures ∙ sym c.in_err-e.was)
    (λ ts ready. let h = c.loop-e.invariant ts ready in let r = c.identifier.ensures ts h.going.took.ready in identifiers-stop h r c.in_err-e.was)

pub number-requires : goal.number-requires
number-requires c =
    let p = c.requires in
    let h = c.loop-e.invariant p.tokens p.ready in
    let r = c.identifier.ensures p.tokens h.going.took.ready in (accepted c.in_ok-e.was r).took.ready.fits

pub shape_of-work-then-number-ne-NAME : goal.shape_of-work-then-number-ne-NAME
shape_of-work-then-number-ne-NAME c =
    let p = c.requires in
    let h = c.loop-e.invariant p.tokens p.ready in
    let r = c.identifier.ensures p.tokens h.going.took.ready in r.kept.len ∙ h.going.kept.len

pub returns-then-number-ne-NAME : goal.returns-then-number-ne-NAME
returns-then-number-ne-NAME c =
    λ ts ready. let h = c.loop-e.invariant ts ready in let r = c.identifier.ensures ts h.going.took.ready in identifiers-end h r c.in_ok-e.was (λ e. c.if-number-ne-NAME.true (c.number.ensures ∙ e))

pub loop-e-smaller : goal.loop-e-smaller
loop-e-smaller c =
    let p = c.requires in
    let h = c.loop-e.invariant p.tokens p.ready in
    let r = c.identifier.ensures p.tokens h.going.took.ready in
    let t = (accepted c.in_ok-e.was r).took in omega (arith, took_some t, t.onward.count, t.ready.fits.inside)

pub loop-e-preserved : goal.loop-e-preserved
loop-e-preserved c =
    λ ts ready. let h = c.loop-e.invariant ts ready in let r = c.identifier.ensures ts h.going.took.ready
    in identifiers-again h r c.in_ok-e.was (sym c.number.ensures ∙ c.if-number-ne-NAME.false) (took_some (accepted c.in_ok-e.was r).took)
