-- `expressions::names::binder_kind` meets its contract.
use mathlib.Core.Path.{sym, ap}
use borrow.Author.Tests.{ne_eqb}
use Rattle.entries.specs.Kinds as Kind
use Rattle.expressions.specs.NameStates.{binder_kind}
use Rattle.expressions.proofs.names.binder_kind.Goals as goal

pub returns-then-level-eq0 : goal.returns-then-level-eq0
returns-then-level-eq0 c = sym (ap binder_kind c.if-level-eq0.true)

pub returns : goal.returns
returns c = sym (ap Kind.binder (ne_eqb c.args.level 0 c.if-level-eq0.false))
