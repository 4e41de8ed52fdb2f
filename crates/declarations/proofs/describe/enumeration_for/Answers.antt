-- `enumeration_for` meets its contract.
use mathlib.Core.Path.{sym, ◌∙◌}
use native.Mathlib.Omega.{arith}
use Rattle.operands.specs.Entries.{kind_at}
use Rattle.declarations.specs.EnumerationLaws.{enumeration-small}
use Rattle.declarations.specs.DescribingLaws.{enumeration_for_lem, enumeration_none}
use Rattle.declarations.proofs.describe.enumeration_for.Goals as goal

pub overflow_cast-result : goal.overflow_cast-result
overflow_cast-result c =
    omega (arith, c.enumeration_of.ensures, enumeration-small c.args.work.now c.args.refs.now c.args.found.now c.args.k)

pub returns-then-kind_at-eq-TYPED : goal.returns-then-kind_at-eq-TYPED
unfolding kind_at
returns-then-kind_at-eq-TYPED c =
    c.enumeration_of.ensures ∙ enumeration_for_lem c.args.work.now
    c.args.refs.now c.args.found.now
    c.args.k (sym c.kind_at.ensures ∙ c.if-kind_at-eq-TYPED.true)

pub returns : goal.returns
unfolding kind_at
returns c =
    enumeration_none c.args.work.now c.args.refs.now
    c.args.found.now c.args.k (λ e. c.if-kind_at-eq-TYPED.false (c.kind_at.ensures ∙ e))
