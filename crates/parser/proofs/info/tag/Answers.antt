-- `tag` meets its contract: by the next token.
use Rattle.parser.proofs.Laws.InfoReads.{tag_first, tag_second}
use Rattle.parser.proofs.Laws.Passing.{next_of_lem, next_fits}
use mathlib.Core.Path.{sym, ◌∙◌}
use native.Mathlib.Omega.{arith}
use Rattle.parser.proofs.info.tag.Goals as goal

pub next-requires : goal.next-requires
next-requires c =
    let z = c.requires in next_fits z.ready (sym c.number.ensures ∙ c.if-number-eq-NAME.true) (omega arith)

pub returns-then-number-eq-NAME : goal.returns-then-number-eq-NAME
returns-then-number-eq-NAME c =
    λ ts ready. tag_first ready (sym c.number.ensures ∙ c.if-number-eq-NAME.true) (next_of_lem c.next.ensures)

pub returns : goal.returns
returns c =
    λ ts ready. tag_second ready (λ e. c.if-number-eq-NAME.false (c.number.ensures ∙ e)) c.expect.ensures
