-- `expressions::names::between` meets its contract, sign by sign.
use mathlib.Core.Path.{sym, ap, ◌∙◌}
use Rattle.entries.specs.Kinds as Kind
use Rattle.expressions.proofs.names.between.Goals as goal

pub returns-then-strict : goal.returns-then-strict
returns-then-strict c = sym (ap Kind.between (sym c.strict.ensures ∙ c.if-strict.true))

pub returns : goal.returns
returns c = sym (ap Kind.between (sym c.strict.ensures ∙ c.if-strict.false))
