-- `expressions::climb::tight` meets its contract, by whether there is an operator.
use mathlib.Core.Bool.{not, ◌&&◌}
use mathlib.Core.Path.{sym, ap}
use lib.Dec.{leb}
use borrow.Author.Tests.{eq-eqb, ne_eqb}
use Rattle.operators.specs.Fields.{level_field}
use Rattle.expressions.proofs.climb.tight.Goals as goal

pub returns-then-row-eq0 : goal.returns-then-row-eq0
returns-then-row-eq0 c = let a = c.args in ap (λ b. not b && leb (level_field a.row) a.level) (sym (eq-eqb a.row 0 c.if-row-eq0.true))

pub returns : goal.returns
returns c = let a = c.args in ap (λ b. not b && leb (level_field a.row) a.level) (sym (ne_eqb a.row 0 c.if-row-eq0.false))
