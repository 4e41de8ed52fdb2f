-- `names::walk::hidden_place` meets its contract: the test is the definition's.
use Rattle.names.proofs.TableLaws.{hidden-not, hidden-here}
use Rattle.names.proofs.walk.hidden_place.Goals as goal

pub returns-then-seen-lt-NOWHERE : goal.returns-then-seen-lt-NOWHERE
returns-then-seen-lt-NOWHERE c = hidden-not _ _ c.if-seen-lt-NOWHERE.true

pub returns-else-seen-lt-NOWHERE : goal.returns-else-seen-lt-NOWHERE
returns-else-seen-lt-NOWHERE c = hidden-here _ _ c.if-seen-lt-NOWHERE.false
