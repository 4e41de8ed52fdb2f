-- `names::entry::binds` meets its contract: the tests are those of the definition.
use borrow.Author.Tests.{eq-eqb, ne_eqb}
use Rattle.names.proofs.entry.binds.Goals as goal

pub returns-then-kind-eq-BINDER : goal.returns-then-kind-eq-BINDER
returns-then-kind-eq-BINDER c = simp (eq-eqb _ _ c.if-kind-eq-BINDER.true)

pub returns-else-kind-eq-BINDER : goal.returns-else-kind-eq-BINDER
returns-else-kind-eq-BINDER c = simp (ne_eqb _ _ c.if-kind-eq-BINDER.false)
