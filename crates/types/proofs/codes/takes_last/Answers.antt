-- What the last operand must be: an element of a set takes the elements behind it as they are.
use mathlib.Core.Path.{◌∙◌}
use Rattle.types.specs.CodeLaws.{last_more, last_one, last-table}
use Rattle.types.proofs.codes.takes_last.Goals as goal

pub returns-then-n-eq2 : goal.returns-then-n-eq2
returns-then-n-eq2 c = last_more c.args.kind c.args.n c.if-kind-eq-ELEMENT.true c.if-n-eq2.true

pub returns-then-kind-eq-ELEMENT : goal.returns-then-kind-eq-ELEMENT
returns-then-kind-eq-ELEMENT c = last_one c.args.kind c.args.n c.if-kind-eq-ELEMENT.true c.if-n-eq2.false

pub returns : goal.returns
returns c = c.last_takes.ensures ∙ last-table c.args.kind c.args.n c.if-kind-eq-ELEMENT.false
