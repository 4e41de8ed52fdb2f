-- `base` meets its contract.
use borrow.Author.Tests.{eq-eqb, ne_eqb}
use Rattle.form_writers.proofs.core_form.base.Goals as goal

pub returns-then-kind-eq-AND : goal.returns-then-kind-eq-AND
returns-then-kind-eq-AND c = simp (eq-eqb _ _ c.if-kind-eq-AND.true)

pub returns-else-kind-eq-AND : goal.returns-else-kind-eq-AND
returns-else-kind-eq-AND c = simp (ne_eqb _ _ c.if-kind-eq-AND.false)
