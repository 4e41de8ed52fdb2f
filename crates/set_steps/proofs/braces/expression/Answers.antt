use native.Mathlib.Omega.{arith}
use mathlib.Core.Path.{sym, ◌∙◌}
use Rattle.set_steps.specs.InnerLaws.{expression_followed, expression-last}
use Rattle.set_steps.proofs.braces.expression.Goals as goal

pub overflow_sub-result-then-kind_at-eq-ELEMENT : goal.overflow_sub-result-then-kind_at-eq-ELEMENT
overflow_sub-result-then-kind_at-eq-ELEMENT c =
    let at-kind-at = c.kind_at in
    let at-if1 = c.if-kind_at-eq-ELEMENT in
    let at-size-at = c.size_at in
    let i = c.requires.inside (sym at-kind-at.ensures ∙ at-if1.true) in let z = at-size-at.ensures in omega arith

pub returns-then-kind_at-eq-ELEMENT : goal.returns-then-kind_at-eq-ELEMENT
returns-then-kind_at-eq-ELEMENT c =
    let at-kind-at = c.kind_at in
    let at-if1 = c.if-kind_at-eq-ELEMENT in
    let at-size-at = c.size_at in
    expression_followed c.args.work.now c.args.j at-kind-at.ensures at-if1.true at-size-at.ensures

pub returns : goal.returns
returns c =
    let at-kind-at = c.kind_at in
    let at-if1 = c.if-kind_at-eq-ELEMENT in
    expression-last c.args.work.now c.args.j at-kind-at.ensures at-if1.false
