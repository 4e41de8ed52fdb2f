-- `titles` meets its contract: its three parts in a row.
use Rattle.node.proofs.ReturnedLaws.{raised}
use Rattle.parser.proofs.Laws.Passing.{passed, passed-ready}
use Rattle.parser.proofs.Laws.Rows.{accepted}
use Rattle.parser.proofs.Laws.Skims.{skim_refused, skim_then, expect_spelt}
use mathlib.Core.Path.{refl, sym, ◌∙◌}
use native.Mathlib.Omega.{arith}
use Rattle.parser.proofs.info.titles.Goals as goal

pub returns-in_err-d : goal.returns-in_err-d
returns-in_err-d c =
    rw (raised c.from_residual.ensures ∙ sym c.in_err-d.was)
    (λ ts ready. skim_refused (expect_spelt ready "{" (record { known = refl; same = refl }) c.expect.ensures) _ c.in_err-d.was)

pub described-requires : goal.described-requires
described-requires c =
    let z = c.requires in (
      record
          { tokens = z.tokens; ready = passed-ready z.ready (passed _ _ _ c.expect.ensures c.in_ok-d.was) (omega arith) },
      record
          { spelling = "TITLE"; spells = (record { known = refl; same = refl }) },
    )

pub returns-in_err-e : goal.returns-in_err-e
returns-in_err-e c =
    rw (raised c.from_residual-in_err-e.ensures ∙ sym c.in_err-e.was)
    (λ ts ready. skim_then (expect_spelt ready "{" (record { known = refl; same = refl }) c.expect.ensures) _ c.in_ok-d.was (λ a. skim_refused (c.described.ensures
    "TITLE" (record { known = refl; same = refl }) ts (passed-ready ready (passed _ _ _ c.expect.ensures c.in_ok-d.was) (omega arith))) _ c.in_err-e.was))

pub described-requires-2 : goal.described-requires-2
described-requires-2 c =
    let z = c.requires in (
      record {
        tokens = z.tokens;
        ready = (accepted c.in_ok-e.was
            (c.described.ensures "TITLE" (record { known = refl; same = refl }) z.tokens
            (passed-ready z.ready (passed _ _ _ c.expect.ensures c.in_ok-d.was)
            (omega arith)))).took.ready;
      },
      record { spelling = "DESCRIPTION"; spells = (record { known = refl; same = refl }) },
    )

pub returns : goal.returns
returns c =
    λ ts ready. skim_then (expect_spelt ready "{" (record { known = refl; same = refl }) c.expect.ensures) _ c.in_ok-d.was (λ a. skim_then (c.described.ensures
    "TITLE" (record { known = refl; same = refl }) ts (passed-ready ready (passed _ _ _ c.expect.ensures c.in_ok-d.was) (omega arith))) _ c.in_ok-e.was
    (λ b. c.described-2.ensures "DESCRIPTION" (record { known = refl; same = refl }) ts (accepted c.in_ok-e.was
    (c.described.ensures "TITLE" (record { known = refl; same = refl }) ts (passed-ready ready (passed _ _ _ c.expect.ensures c.in_ok-d.was) (omega arith)))).took.ready))
