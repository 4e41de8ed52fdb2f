-- `signal` meets its contract: the node is the signal's.
use native.Mathlib.Omega.{arith}
use borrow.Author.Rules.{rules}
use Rattle.shared_writing.specs.StayLaws.{stays_past}
use Rattle.shared_writing.specs.WritingLaws.{wrote-past}
use Rattle.shared_writing.specs.StepLaws.{wrote-signal}
use Rattle.shared_writing.proofs.signal.Goals as goal

pub returns-then-at-gt-MAX_NODES : goal.returns-then-at-gt-MAX_NODES
returns-then-at-gt-MAX_NODES c = wrote-past (stays_past _ (omega arith)) c.if-at-gt-MAX_NODES.true (omega arith)

pub returns : goal.returns
returns c =
    wrote-signal (omega arith) (search rules) c.put.ensures c.requires.0 c.unary-node.ensures
