-- `expressions::roles::among` meets its contract, by the three numbers.
use mathlib.Core.Path.{sym, ap, ◌∙◌}
use mathlib.Core.Bool.{◌||◌}
use lib.Dec.{eqb}
use borrow.Author.Tests.{ne_eqb}
use Rattle.lexer.specs.Numbers.{fixed}
use Rattle.expressions.specs.Binders.{among_at}
use Rattle.expressions.proofs.roles.among.Goals as goal

pub returns-then-number-eq-IN : goal.returns-then-number-eq-IN
returns-then-number-eq-IN c = sym (ap among_at c.if-number-eq-IN.true)

pub returns-then-number-eq-ELEM : goal.returns-then-number-eq-ELEM
returns-then-number-eq-ELEM c = sym (ap among_at c.if-number-eq-ELEM.true)

pub returns : goal.returns
returns c =
    let n = c.args.number in sym (ap (λ b. b || (eqb n (fixed "ELEM") || eqb n (fixed "<-"))) (ne_eqb n _ c.if-number-eq-IN.false) ∙ ap (λ b. b || eqb n (fixed "<-")) (ne_eqb n _ c.if-number-eq-ELEM.false))
