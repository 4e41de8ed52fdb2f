-- `operand` meets its contract.
use mathlib.Core.Path.{◌∙◌}
use Rattle.layout.specs.StackLaws.{operand-first, operand-second}
use Rattle.layout.proofs.formula.operand.Goals as goal

pub returns-then-done-eq0 : goal.returns-then-done-eq0
returns-then-done-eq0 c =
    c.first.ensures ∙ operand-first c.args.done _ _ c.if-done-eq0.true

pub returns : goal.returns
returns c =
    c.second.ensures ∙ operand-second c.args.done _ _ c.if-done-eq0.false
