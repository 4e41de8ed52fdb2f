-- `strict` meets its contract: by the next token.
use Rattle.parser.proofs.Laws.InfoReads.{strict_none, strict_some}
use Rattle.parser.proofs.Laws.Passing.{next_of_lem, next_fits, inside, past-ready}
use mathlib.Core.Path.{sym, ◌∙◌}
use native.Mathlib.Omega.{arith}
use Rattle.parser.proofs.info.strict.Goals as goal

pub returns-then-number-ne-COMMA : goal.returns-then-number-ne-COMMA
returns-then-number-ne-COMMA c =
    λ ts ready. strict_none ready (λ e. c.if-number-ne-COMMA.true (c.number.ensures ∙ e))

pub next-requires : goal.next-requires
next-requires c =
    let z = c.requires in next_fits z.ready (sym c.number.ensures ∙ c.if-number-ne-COMMA.false) (omega arith)

pub expect-requires : goal.expect-requires
expect-requires c =
    let z = c.requires in (
      (past-ready z.ready (next_of_lem c.next.ensures)
          (inside z.ready (sym c.number.ensures ∙ c.if-number-ne-COMMA.false) (omega arith))).fits,
      omega arith,
    )

pub returns : goal.returns
returns c =
    λ ts ready. strict_some ready (sym c.number.ensures ∙ c.if-number-ne-COMMA.false) (next_of_lem c.next.ensures) c.expect.ensures
