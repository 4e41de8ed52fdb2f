use Rattle.node.proofs.ReturnedLaws.{raised}
use Rattle.parser.proofs.Laws.InfoReads.{tagging_start, tags_stop, tags-end, tags-again}
use Rattle.parser.proofs.Laws.Passing.{next_of_lem, next_fits, turn_falls}
use Rattle.parser.proofs.Laws.Rows.{accepted}
use mathlib.Core.Path.{sym, ◌∙◌}
use native.Mathlib.Omega.{arith}
use Rattle.parser.proofs.info.tags.Goals as goal

pub loop-e-init : goal.loop-e-init
loop-e-init c =
    λ ts ready. tagging_start ready

pub tag-requires : goal.tag-requires
tag-requires c =
    let z = c.requires in let h = c.loop-e.invariant z.tokens z.ready in record { tokens = z.tokens; ready = h.took.ready }

pub returns-in_err-e : goal.returns-in_err-e
returns-in_err-e c =
    rw (raised c.from_residual.ensures ∙ sym c.in_err-e.was)
    (λ ts ready. let h = c.loop-e.invariant ts ready in let r = c.tag.ensures ts h.took.ready in tags_stop h r c.in_err-e.was)

pub number-requires : goal.number-requires
number-requires c =
    let z = c.requires in let h = c.loop-e.invariant z.tokens z.ready in
    let r = c.tag.ensures z.tokens h.took.ready in (accepted c.in_ok-e.was r).took.ready.fits

pub returns-then-number-ne-COMMA : goal.returns-then-number-ne-COMMA
returns-then-number-ne-COMMA c =
    λ ts ready. let h = c.loop-e.invariant ts ready in let r = c.tag.ensures ts h.took.ready in tags-end h r c.in_ok-e.was (λ e. c.if-number-ne-COMMA.true (c.number.ensures ∙ e))

pub next-d-requires : goal.next-d-requires
next-d-requires c =
    let z = c.requires in let h = c.loop-e.invariant z.tokens z.ready in
    let r = c.tag.ensures z.tokens h.took.ready in
    next_fits (accepted c.in_ok-e.was r).took.ready (sym c.number.ensures ∙ c.if-number-ne-COMMA.false) (omega arith)

pub loop-e-smaller : goal.loop-e-smaller
loop-e-smaller c =
    let z = c.requires in
    let h = c.loop-e.invariant z.tokens z.ready in
    let r = c.tag.ensures z.tokens h.took.ready in let t = (accepted c.in_ok-e.was r).took in
    turn_falls t.ready t.onward (sym c.number.ensures ∙ c.if-number-ne-COMMA.false) (omega arith) c.next-d.ensures

pub loop-e-preserved : goal.loop-e-preserved
loop-e-preserved c =
    λ ts ready. let h = c.loop-e.invariant ts ready in let r = c.tag.ensures ts h.took.ready in tags-again h r c.in_ok-e.was (sym c.number.ensures ∙ c.if-number-ne-COMMA.false)
    (next_of_lem c.next-d.ensures)
