-- `names::entry::declares` meets its contract: the tests are those of the definition.
use borrow.Author.Tests.{le-leb, lt-leb, eq-eqb, ne_eqb}
use Rattle.names.proofs.entry.declares.Goals as goal

pub returns-then-kind-low : goal.returns-then-kind-low
returns-then-kind-low c = simp (lt-leb _ _ c.if-kind-low.true)

pub returns-then-kind-eq-WORD : goal.returns-then-kind-eq-WORD
returns-then-kind-eq-WORD c = simp (le-leb _ _ c.if-kind-low.false, eq-eqb _ _ c.if-kind-eq-WORD.true)

pub returns : goal.returns
returns c = simp (le-leb _ _ c.if-kind-low.false, ne_eqb _ _ c.if-kind-eq-WORD.false)
