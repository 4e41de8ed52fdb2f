-- `names::entry::ends` meets its contract: the tests are those of the definition.
use borrow.Author.Tests.{le-leb, lt-leb}
use Rattle.names.proofs.entry.ends.Goals as goal

pub returns-then-kind-ge-BIG_NUMBERS : goal.returns-then-kind-ge-BIG_NUMBERS
returns-then-kind-ge-BIG_NUMBERS c = simp (le-leb _ _ c.if-kind-ge-BIG_NUMBERS.true)

pub returns-else-kind-ge-BIG_NUMBERS : goal.returns-else-kind-ge-BIG_NUMBERS
returns-else-kind-ge-BIG_NUMBERS c = simp (lt-leb _ _ c.if-kind-ge-BIG_NUMBERS.false)
