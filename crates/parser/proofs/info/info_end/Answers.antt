-- `info_end` meets its contract: TAGS or the end.
use Rattle.node.proofs.ReturnedLaws.{raised}
use Rattle.parser.proofs.Laws.InfoReads.{no_tags, with_tags}
use Rattle.parser.proofs.Laws.Passing.{next_of_lem, next_fits, inside, past-ready, passed, passed-ready}
use Rattle.parser.proofs.Laws.Rows.{accepted}
use Rattle.parser.proofs.Laws.Skims.{skim_refused, skim_then, expect_spelt}
use mathlib.Core.Path.{refl, sym, ◌∙◌}
use native.Mathlib.Omega.{arith}
use Rattle.parser.proofs.info.info_end.Goals as goal

pub returns-then-number-ne-TAGS : goal.returns-then-number-ne-TAGS
returns-then-number-ne-TAGS c =
    λ ts ready. no_tags ready (λ e. c.if-number-ne-TAGS.true (c.number.ensures ∙ e)) c.expect.ensures

pub next-requires : goal.next-requires
next-requires c =
    let z = c.requires in next_fits z.ready (sym c.number.ensures ∙ c.if-number-ne-TAGS.false) (omega arith)

pub expect-requires-2 : goal.expect-requires-2
expect-requires-2 c =
    let z = c.requires in (
      (past-ready z.ready (next_of_lem c.next.ensures)
          (inside z.ready (sym c.number.ensures ∙ c.if-number-ne-TAGS.false) (omega arith))).fits,
      omega arith,
    )

pub returns-in_err-d : goal.returns-in_err-d
returns-in_err-d c =
    rw (raised c.from_residual.ensures ∙ sym c.in_err-d.was)
    (λ ts ready. with_tags ready (sym c.number.ensures ∙ c.if-number-ne-TAGS.false) (next_of_lem c.next.ensures)
    (skim_refused (expect_spelt (past-ready ready (next_of_lem c.next.ensures) (inside ready (sym c.number.ensures ∙ c.if-number-ne-TAGS.false) (omega arith))) ":"
    (record { known = refl; same = refl }) c.expect-2.ensures) _ c.in_err-d.was))

pub tags-requires : goal.tags-requires
tags-requires c =
    let z = c.requires in
    record {
      tokens = z.tokens;
      ready = passed-ready (past-ready z.ready (next_of_lem c.next.ensures)
          (inside z.ready (sym c.number.ensures ∙ c.if-number-ne-TAGS.false) (omega arith)))
          (passed _ _ _ c.expect-2.ensures c.in_ok-d.was) (omega arith);
    }

pub returns-in_err-e : goal.returns-in_err-e
returns-in_err-e c =
    rw (raised c.from_residual-in_err-e.ensures ∙ sym c.in_err-e.was)
    (λ ts ready. with_tags ready (sym c.number.ensures ∙ c.if-number-ne-TAGS.false) (next_of_lem c.next.ensures) (skim_then (expect_spelt (past-ready ready (next_of_lem c.next.ensures)
    (inside ready (sym c.number.ensures ∙ c.if-number-ne-TAGS.false) (omega arith))) ":" (record { known = refl; same = refl }) c.expect-2.ensures) _ c.in_ok-d.was (λ a.
    skim_refused (c.tags.ensures ts (passed-ready (past-ready ready (next_of_lem c.next.ensures) (inside ready (sym c.number.ensures ∙ c.if-number-ne-TAGS.false) (omega arith)))
    (passed _ _ _ c.expect-2.ensures c.in_ok-d.was) (omega arith))) _ c.in_err-e.was)))

pub expect-requires-3 : goal.expect-requires-3
expect-requires-3 c =
    let z = c.requires in (
      (accepted c.in_ok-e.was (c.tags.ensures z.tokens
          (passed-ready (past-ready z.ready (next_of_lem c.next.ensures)
          (inside z.ready (sym c.number.ensures ∙
          c.if-number-ne-TAGS.false) (omega arith)))
          (passed _ _ _ c.expect-2.ensures c.in_ok-d.was) (omega arith)))).took.ready.fits,
      omega arith,
    )

pub returns : goal.returns
returns c =
    λ ts ready. with_tags ready (sym c.number.ensures ∙ c.if-number-ne-TAGS.false) (next_of_lem c.next.ensures) (skim_then (expect_spelt (past-ready ready (next_of_lem c.next.ensures)
    (inside ready (sym c.number.ensures ∙ c.if-number-ne-TAGS.false) (omega arith))) ":" (record { known = refl; same = refl }) c.expect-2.ensures) _ c.in_ok-d.was (λ a.
    skim_then (c.tags.ensures ts (passed-ready (past-ready ready (next_of_lem c.next.ensures) (inside ready (sym c.number.ensures ∙ c.if-number-ne-TAGS.false) (omega arith))) (passed
    _ _ _ c.expect-2.ensures c.in_ok-d.was) (omega arith))) _ c.in_ok-e.was (λ b. expect_spelt (accepted c.in_ok-e.was (c.tags.ensures ts (passed-ready
    (past-ready ready (next_of_lem c.next.ensures) (inside ready (sym c.number.ensures ∙ c.if-number-ne-TAGS.false) (omega arith)))
    (passed _ _ _ c.expect-2.ensures c.in_ok-d.was) (omega arith)))).took.ready "}" (record { known = refl; same = refl }) c.expect-3.ensures)))
