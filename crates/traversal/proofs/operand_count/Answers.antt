-- The number of operands: each way through the definition.
use mathlib.Core.Path.{sym, ◌∙◌}
use Rattle.traversal.specs.ArityLaws.{more-operands, last-operands, empty-operands, filled-operands, other_operands}
use Rattle.traversal.proofs.operand_count.Goals as goal

pub returns-then-before-eq-ELEMENT : goal.returns-then-before-eq-ELEMENT
returns-then-before-eq-ELEMENT c = sym (more-operands c.args.before c.args.c c.if-kind-eq-ELEMENT.true c.if-before-eq-ELEMENT.true)

pub returns-then-kind-eq-ELEMENT : goal.returns-then-kind-eq-ELEMENT
returns-then-kind-eq-ELEMENT c = sym (last-operands c.args.before c.args.c c.if-kind-eq-ELEMENT.true c.if-before-eq-ELEMENT.false)

pub returns-then-c-eq1 : goal.returns-then-c-eq1
returns-then-c-eq1 c =
    sym (empty-operands c.args.before c.args.c c.if-kind-eq-LISTED.true c.if-c-eq1.true)

pub returns-then-kind-eq-LISTED : goal.returns-then-kind-eq-LISTED
returns-then-kind-eq-LISTED c =
    sym (filled-operands c.args.before c.args.c c.if-kind-eq-LISTED.true c.if-c-eq1.false)

pub returns : goal.returns
returns c =
    c.arity.ensures ∙ sym (other_operands c.args.before c.args.c c.if-kind-eq-ELEMENT.false c.if-kind-eq-LISTED.false)
