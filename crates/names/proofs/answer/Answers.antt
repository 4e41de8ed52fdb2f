-- `names::answer` meets its contract: the tests are those of the definition.
use mathlib.Core.Path.{sym, ap, ◌∙◌}
use borrow.Author.Tests.{ltb-true, ltb-false}
use Rattle.std.specs.Prelude.{is_some}
use Rattle.names.proofs.AnsweringLaws.{answer-hidden, answer-again, answer-many, answer-named}
use Rattle.names.proofs.answer.Goals as goal

pub returns-then-walk-lt-NOWHERE : goal.returns-then-walk-lt-NOWHERE
returns-then-walk-lt-NOWHERE c = answer-hidden _ _ _ _ c.if-walk-lt-NOWHERE.true

pub returns-then-again-lt-NOWHERE : goal.returns-then-again-lt-NOWHERE
returns-then-again-lt-NOWHERE c = answer-again _ _ _ _ c.min-again.ensures c.if-walk-lt-NOWHERE.false c.if-again-lt-NOWHERE.true

pub returns-in-Some : goal.returns-in-Some
returns-in-Some c =
    rw c.in-Some.is
    (answer-many _ _ _ _ c.min-again.ensures c.if-walk-lt-NOWHERE.false c.if-again-lt-NOWHERE.false
    (ltb-true _ _ (sym c.args.census.tally.told ∙ ap is_some c.in-Some.is)))

pub returns : goal.returns
returns c =
    answer-named _ _ _ _ c.min-again.ensures c.if-walk-lt-NOWHERE.false c.if-again-lt-NOWHERE.false
    (ltb-false _ _ (sym c.args.census.tally.told ∙ ap is_some c.in_default.is))
