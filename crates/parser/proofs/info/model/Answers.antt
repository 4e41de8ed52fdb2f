-- `model` meets its contract: by the next token.
use Rattle.parser.proofs.Laws.InfoReads.{model_first, model_second}
use Rattle.parser.proofs.Laws.Passing.{next_of_lem, next_fits}
use mathlib.Core.Path.{sym, ◌∙◌}
use native.Mathlib.Omega.{arith}
use Rattle.parser.proofs.info.model.Goals as goal

pub next-requires : goal.next-requires
next-requires c =
    let z = c.requires in next_fits z.ready (sym c.number.ensures ∙ c.if-number-eq-MEALY.true) (omega arith)

pub returns-then-number-eq-MEALY : goal.returns-then-number-eq-MEALY
returns-then-number-eq-MEALY c =
    λ ts ready. model_first ready (sym c.number.ensures ∙ c.if-number-eq-MEALY.true) (next_of_lem c.next.ensures)

pub returns : goal.returns
returns c =
    λ ts ready. model_second ready (λ e. c.if-number-eq-MEALY.false (c.number.ensures ∙ e)) c.expect.ensures
