-- `sections` meets its contract: GLOBAL, then MAIN.
use mathlib.Core.Path.{sym, ◌∙◌}
use Rattle.node.proofs.ReturnedLaws.{raised}
use Rattle.parser.proofs.Laws.Passing.{passed}
use Rattle.parser.proofs.Laws.Whole.{sections_global, main-ready, sections-main, open-ready, sections-open, subsections-ready, sections-read}
use native.Mathlib.Omega.{arith}
use Rattle.parser.proofs.sections.Goals as goal

pub returns-in_err-d : goal.returns-in_err-d
returns-in_err-d c =
    rw (raised c.from_residual.ensures ∙ sym c.in_err-d.was)
    (λ ts ready. sections_global (c.global.ensures ts ready) c.in_err-d.was)

pub expect-requires : goal.expect-requires
expect-requires c =
    let z = c.requires in
    ((main-ready (c.global.ensures z.tokens z.ready) c.in_ok-d.was).fits, omega arith)

pub returns-in_err-e : goal.returns-in_err-e
returns-in_err-e c =
    rw (raised c.from_residual-in_err-e.ensures ∙ sym c.in_err-e.was)
    (λ ts ready. sections-main (c.global.ensures ts ready) c.in_ok-d.was c.expect.ensures c.in_err-e.was)

pub expect-requires-2 : goal.expect-requires-2
expect-requires-2 c =
    let z = c.requires in (
      (open-ready (c.global.ensures z.tokens z.ready)
          c.in_ok-d.was (passed _ _ _ c.expect.ensures c.in_ok-e.was)).fits,
      omega arith,
    )

pub returns-in_err-f : goal.returns-in_err-f
returns-in_err-f c =
    rw (raised c.from_residual-in_err-f.ensures ∙ sym c.in_err-f.was)
    (λ ts ready. sections-open (c.global.ensures ts ready) c.in_ok-d.was (passed _ _ _ c.expect.ensures c.in_ok-e.was) c.expect-2.ensures c.in_err-f.was)

pub subsections-requires : goal.subsections-requires
subsections-requires c =
    let z = c.requires in
    record {
      tokens = z.tokens;
      ready = subsections-ready (c.global.ensures z.tokens z.ready) c.in_ok-d.was
          (passed _ _ _ c.expect.ensures c.in_ok-e.was)
          (passed _ _ _ c.expect-2.ensures c.in_ok-f.was);
    }

pub returns : goal.returns
returns c =
    λ ts ready. sections-read (c.global.ensures ts ready) c.in_ok-d.was (passed _ _ _ c.expect.ensures c.in_ok-e.was) (passed _ _ _ c.expect-2.ensures
    c.in_ok-f.was) (c.subsections.ensures ts (subsections-ready (c.global.ensures ts ready) c.in_ok-d.was (passed _ _ _ c.expect.ensures c.in_ok-e.was) (passed _ _ _ c.expect-2.ensures c.in_ok-f.was)))
