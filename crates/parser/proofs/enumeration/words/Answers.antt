use Rattle.node.proofs.ReturnedLaws.{raised}
use Rattle.language.specs.Tokens.{Marks}
use Rattle.parser.proofs.Laws.Enumerations.{words-stop, words-end, words-again}
use Rattle.parser.proofs.Laws.Loops.{left_some, listing_start, listing_readied}
use Rattle.parser.proofs.Laws.Passing.{next_fits, turn_falls}
use Rattle.parser.proofs.Laws.Rows.{accepted}
use lib.ListN.{length, drop}
use mathlib.Core.Path.{refl, sym, ◌∙◌}
use native.Mathlib.Omega.{arith}
use Rattle.parser.proofs.enumeration.words.Goals as goal

pub loop-e-init : goal.loop-e-init
loop-e-init c =
    λ ts ready. listing_start (length (drop c.args.c.at ts)) ready refl (omega arith) (left_some ready)

pub leaf-requires : goal.leaf-requires
leaf-requires c =
    let p = c.requires in let h = c.loop-e.invariant p.tokens p.ready in (listing_readied p h, omega arith, omega arith)

pub shape_of-work-in_err-e : goal.shape_of-work-in_err-e
shape_of-work-in_err-e c =
    let p = c.requires in let h = c.loop-e.invariant p.tokens p.ready in
    let r = c.leaf.ensures Marks (record { plain = refl; same = refl }) p.tokens h.going.took.ready in r.kept.len ∙ h.going.kept.len

pub returns-in_err-e : goal.returns-in_err-e
returns-in_err-e c =
    rw (raised c.from_residual.ensures ∙ sym c.in_err-e.was)
    (λ ts ready. let h = c.loop-e.invariant ts ready in let r = c.leaf.ensures Marks (record { plain = refl; same = refl }) ts h.going.took.ready in words-stop h r c.in_err-e.was)

pub number-requires : goal.number-requires
number-requires c =
    let p = c.requires in
    let h = c.loop-e.invariant p.tokens p.ready in
    let r = c.leaf.ensures Marks (record { plain = refl; same = refl }) p.tokens h.going.took.ready in
    (accepted c.in_ok-e.was r).took.ready.fits

pub shape_of-work-then-number-ne-COMMA : goal.shape_of-work-then-number-ne-COMMA
shape_of-work-then-number-ne-COMMA c =
    let p = c.requires in
    let h = c.loop-e.invariant p.tokens p.ready in
    let r = c.leaf.ensures Marks (record { plain = refl; same = refl }) p.tokens h.going.took.ready in
    r.kept.len ∙ h.going.kept.len

pub returns-then-number-ne-COMMA : goal.returns-then-number-ne-COMMA
returns-then-number-ne-COMMA c =
    λ ts ready. let h = c.loop-e.invariant ts ready in let r = c.leaf.ensures Marks (record { plain = refl; same = refl }) ts h.going.took.ready in words-end h r c.in_ok-e.was
    (λ e. c.if-number-ne-COMMA.true (c.number.ensures ∙ e))

pub next-d-requires : goal.next-d-requires
next-d-requires c =
    let p = c.requires in
    let h = c.loop-e.invariant p.tokens p.ready in
    let r = c.leaf.ensures Marks (record { plain = refl; same = refl }) p.tokens h.going.took.ready in
    next_fits (accepted c.in_ok-e.was r).took.ready (sym c.number.ensures ∙ c.if-number-ne-COMMA.false) (omega arith)

pub loop-e-smaller : goal.loop-e-smaller
loop-e-smaller c =
    let p = c.requires in
    let h = c.loop-e.invariant p.tokens p.ready in
    let r = c.leaf.ensures Marks (record { plain = refl; same = refl }) p.tokens h.going.took.ready in
    let t = (accepted c.in_ok-e.was r).took in
    turn_falls t.ready t.onward (sym c.number.ensures ∙ c.if-number-ne-COMMA.false) (omega arith) c.next-d.ensures

pub loop-e-preserved : goal.loop-e-preserved
loop-e-preserved c =
    λ ts ready. let h = c.loop-e.invariant ts ready in let r = c.leaf.ensures Marks (record { plain = refl; same = refl }) ts h.going.took.ready in words-again h r c.in_ok-e.was
    (sym c.number.ensures ∙ c.if-number-ne-COMMA.false) c.next-d.ensures
