-- `names::entry::uses` meets its contract: the tests are those of the definition.
use borrow.Author.Tests.{eq-eqb, ne_eqb}
use Rattle.names.proofs.entry.uses.Goals as goal

pub returns-then-kind-eq-NAMED : goal.returns-then-kind-eq-NAMED
returns-then-kind-eq-NAMED c = simp (eq-eqb _ _ c.if-kind-eq-NAMED.true)

pub returns-else-kind-eq-NAMED : goal.returns-else-kind-eq-NAMED
returns-else-kind-eq-NAMED c = simp (ne_eqb _ _ c.if-kind-eq-NAMED.false)
