-- `ordering::arity` meets its contract: by the tests of the kind.
use mathlib.Core.Bool.{true, false}
use mathlib.Core.Path.{sym, ◌∙◌}
use Rattle.ordering.specs.NextLaws.{arity_none, arity_some}
use Rattle.ordering.proofs.arity.Goals as goal

pub returns-then-kind-lt-NOT : goal.returns-then-kind-lt-NOT
returns-then-kind-lt-NOT c = arity_none _ c.if-kind-lt-NOT.true

pub returns-then-has_two : goal.returns-then-has_two
returns-then-has_two c = arity_some _ true c.if-kind-lt-NOT.false (sym c.has_two.ensures ∙ c.if-has_two.true)

pub returns : goal.returns
returns c = arity_some _ false c.if-kind-lt-NOT.false (sym c.has_two.ensures ∙ c.if-has_two.false)
