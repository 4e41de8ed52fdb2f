-- `forever` meets its contract.
use borrow.Author.Tests.{lt-ltb, le-ltb}
use Rattle.lookahead.specs.Codes.{here}
use Rattle.lookahead.proofs.forever.Goals as goal

pub returns-then-s-lt-HERE : goal.returns-then-s-lt-HERE
returns-then-s-lt-HERE c = rw (lt-ltb c.args.s here c.if-s-lt-HERE.true)

pub returns-else-s-lt-HERE : goal.returns-else-s-lt-HERE
returns-else-s-lt-HERE c = rw (le-ltb c.args.s here c.if-s-lt-HERE.false)
