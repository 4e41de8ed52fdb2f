-- `global` meets its contract: the laws of GLOBAL.
use Rattle.node.proofs.ReturnedLaws.{raised}
use Rattle.parser.proofs.Laws.Globals.{global_missing, global-ready, global-open, global-parameters, global-definitions, global-tail}
use Rattle.parser.proofs.Laws.Passing.{next_of_lem, next_fits, passed, passed-ready}
use Rattle.parser.proofs.Laws.Rows.{accepted}
use mathlib.Core.Path.{refl, sym, ◌∙◌}
use native.Mathlib.Omega.{arith}
use Rattle.parser.proofs.blocks.global.Goals as goal

pub returns-then-number-ne-GLOBAL : goal.returns-then-number-ne-GLOBAL
returns-then-number-ne-GLOBAL c =
    λ ts ready. global_missing ready (λ e. c.if-number-ne-GLOBAL.true (c.number.ensures ∙ e))

pub next-requires : goal.next-requires
next-requires c =
    let z = c.requires in next_fits z.ready (sym c.number.ensures ∙ c.if-number-ne-GLOBAL.false) (omega arith)

pub expect-requires : goal.expect-requires
expect-requires c =
    let z = c.requires in
    ((global-ready z.ready (sym c.number.ensures ∙ c.if-number-ne-GLOBAL.false) (next_of_lem c.next.ensures)).fits, omega arith)

pub returns-in_err-d : goal.returns-in_err-d
returns-in_err-d c =
    rw (raised c.from_residual.ensures ∙ sym c.in_err-d.was)
    (λ ts ready. global-open ready (sym c.number.ensures ∙ c.if-number-ne-GLOBAL.false) (next_of_lem c.next.ensures) c.expect.ensures c.in_err-d.was)

pub optional-requires : goal.optional-requires
optional-requires c =
    let z = c.requires in (
      record {
        tokens = z.tokens;
        ready = passed-ready (global-ready z.ready
            (sym c.number.ensures ∙ c.if-number-ne-GLOBAL.false)
            (next_of_lem c.next.ensures)) (passed _ _ _ c.expect.ensures c.in_ok-d.was)
            (omega arith);
      },
      omega arith,
    )

pub returns-in_err-e : goal.returns-in_err-e
returns-in_err-e c =
    rw (raised c.from_residual-in_err-e.ensures ∙ sym c.in_err-e.was)
    (λ ts ready. global-parameters ready (sym c.number.ensures ∙ c.if-number-ne-GLOBAL.false) (next_of_lem c.next.ensures) (passed _ _ _ c.expect.ensures c.in_ok-d.was)
    (c.optional.ensures "PARAMETERS" (record { known = refl; same = refl }) ts (passed-ready (global-ready ready (sym c.number.ensures ∙ c.if-number-ne-GLOBAL.false)
    (next_of_lem c.next.ensures)) (passed _ _ _ c.expect.ensures c.in_ok-d.was) (omega arith))) c.in_err-e.was)

pub optional-requires-2 : goal.optional-requires-2
optional-requires-2 c =
    let z = c.requires in (
      record {
        tokens = z.tokens;
        ready = (accepted c.in_ok-e.was
            (c.optional.ensures "PARAMETERS" (record { known = refl; same = refl }) z.tokens
            (passed-ready (global-ready z.ready (sym c.number.ensures ∙
            c.if-number-ne-GLOBAL.false)
            (next_of_lem c.next.ensures))
            (passed _ _ _ c.expect.ensures
            c.in_ok-d.was) (omega arith)))).took.ready;
      },
      omega arith,
    )

pub returns-in_err-f : goal.returns-in_err-f
returns-in_err-f c =
    rw (raised c.from_residual-in_err-f.ensures ∙ sym c.in_err-f.was)
    (λ ts ready. global-definitions ready (sym c.number.ensures ∙ c.if-number-ne-GLOBAL.false) (next_of_lem c.next.ensures) (passed _ _ _ c.expect.ensures c.in_ok-d.was)
    (c.optional.ensures "PARAMETERS" (record { known = refl; same = refl }) ts (passed-ready (global-ready ready (sym c.number.ensures ∙ c.if-number-ne-GLOBAL.false)
    (next_of_lem c.next.ensures)) (passed _ _ _ c.expect.ensures c.in_ok-d.was) (omega arith))) c.in_ok-e.was (c.optional-2.ensures "DEFINITIONS" (record {
      known = refl;
      same = refl;
    }) ts (accepted c.in_ok-e.was (c.optional.ensures "PARAMETERS" (record { known = refl; same = refl }) ts
    (passed-ready (global-ready ready (sym c.number.ensures ∙ c.if-number-ne-GLOBAL.false) (next_of_lem c.next.ensures)) (passed _ _ _ c.expect.ensures c.in_ok-d.was)
    (omega arith)))).took.ready) c.in_err-f.was)

pub expect-requires-2 : goal.expect-requires-2
expect-requires-2 c =
    let z = c.requires in (
      (accepted c.in_ok-f.was
          (c.optional-2.ensures "DEFINITIONS" (record { known = refl; same = refl }) z.tokens
          (accepted c.in_ok-e.was
          (c.optional.ensures "PARAMETERS" (record { known = refl; same = refl }) z.tokens
          (passed-ready (global-ready z.ready (sym c.number.ensures ∙ c.if-number-ne-GLOBAL.false) (next_of_lem c.next.ensures)) (passed _ _ _
          c.expect.ensures
          c.in_ok-d.was)
          (omega arith)))).took.ready)).took.ready.fits,
      omega arith,
    )

pub returns : goal.returns
returns c =
    λ ts ready. global-tail ready (sym c.number.ensures ∙ c.if-number-ne-GLOBAL.false) (next_of_lem c.next.ensures) (passed _ _ _ c.expect.ensures c.in_ok-d.was)
    (c.optional.ensures "PARAMETERS" (record { known = refl; same = refl }) ts (passed-ready (global-ready ready (sym c.number.ensures ∙ c.if-number-ne-GLOBAL.false)
    (next_of_lem c.next.ensures)) (passed _ _ _ c.expect.ensures c.in_ok-d.was) (omega arith))) c.in_ok-e.was (c.optional-2.ensures "DEFINITIONS" (record {
      known = refl;
      same =
          refl;
    }) ts (accepted c.in_ok-e.was (c.optional.ensures "PARAMETERS" (record { known = refl; same = refl }) ts (passed-ready (global-ready ready (sym c.number.ensures
    ∙ c.if-number-ne-GLOBAL.false) (next_of_lem c.next.ensures)) (passed _ _ _ c.expect.ensures c.in_ok-d.was) (omega arith)))).took.ready) c.in_ok-f.was c.expect-2.ensures
