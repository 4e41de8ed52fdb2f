-- `expressions::names::sign` meets its contract, by the numbers.
use mathlib.Core.Path.{sym, ap, ◌∙◌}
use lib.Dec.{eqb}
use mathlib.Core.Bool.{◌||◌}
use borrow.Author.Tests.{ne_eqb}
use Rattle.lexer.specs.Numbers.{fixed}
use Rattle.expressions.specs.Signs.{sign_at}
use Rattle.expressions.proofs.names.sign.Goals as goal

pub returns-then-strict : goal.returns-then-strict
returns-then-strict c =
    let n = c.args.number in sym (ap (λ b. b || (eqb n (fixed "<=") || eqb n (fixed "LEQ"))) (sym c.strict.ensures ∙ c.if-strict.true))

pub returns-then-number-eq-AT_MOST : goal.returns-then-number-eq-AT_MOST
returns-then-number-eq-AT_MOST c = sym (ap sign_at c.if-number-eq-AT_MOST.true)

pub returns : goal.returns
returns c =
    let n = c.args.number in sym (ap (λ b. b || (eqb n (fixed "<=") || eqb n (fixed "LEQ"))) (sym c.strict.ensures ∙ c.if-strict.false) ∙ ap (λ b. b || eqb n (fixed "LEQ")) (ne_eqb n _ c.if-number-eq-AT_MOST.false))
