-- `after` meets its contract.
use borrow.Author.Tests.{lt-ltb, le-ltb}
use Rattle.recordings.specs.Lasso.{next}
use Rattle.recordings.proofs.after.Goals as goal

pub returns-then-p-n : goal.returns-then-p-n
unfolding next
returns-then-p-n c = rw (lt-ltb _ _ c.if-p-n.true)

pub returns-else-p-n : goal.returns-else-p-n
unfolding next
returns-else-p-n c = rw (le-ltb _ _ c.if-p-n.false)
