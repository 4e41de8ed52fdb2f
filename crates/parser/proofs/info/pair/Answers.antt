-- `pair` meets its contract: one token, then the other.
use mathlib.Core.Path.{sym, ◌∙◌}
use Rattle.node.proofs.ReturnedLaws.{raised}
use Rattle.parser.proofs.Laws.Passing.{passed, passed-ready}
use Rattle.parser.proofs.Laws.Skims.{skim_refused, skim_then, expect_spelt}
use Rattle.parser.proofs.info.pair.Goals as goal

pub returns-in_err-d : goal.returns-in_err-d
returns-in_err-d c =
    rw (raised c.from_residual.ensures ∙ sym c.in_err-d.was)
    (λ s u first second ts ready. skim_refused (expect_spelt ready s first c.expect.ensures) _ c.in_err-d.was)

pub expect-requires-2 : goal.expect-requires-2
expect-requires-2 c =
    let z = c.requires in ((passed-ready z.0.ready (passed _ _ _ c.expect.ensures c.in_ok-d.was) z.1).fits, z.2)

pub returns : goal.returns
returns c =
    λ s u first second ts ready. skim_then (expect_spelt ready s first c.expect.ensures) _ c.in_ok-d.was (λ a. expect_spelt (passed-ready ready (passed _ _ _ c.expect.ensures c.in_ok-d.was) c.requires.1) u second c.expect-2.ensures)
