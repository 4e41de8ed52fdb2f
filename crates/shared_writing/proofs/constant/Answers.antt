-- `constant` meets its contract: the node of either kind is the constant's.
use native.Mathlib.Omega.{arith}
use borrow.Author.Rules.{rules}
use Rattle.shared_writing.specs.StayLaws.{stays_past}
use Rattle.shared_writing.specs.WritingLaws.{wrote-past}
use Rattle.shared_writing.specs.StepLaws.{wrote_true, wrote_false}
use Rattle.shared_writing.proofs.constant.Goals as goal

pub returns-then-at-gt-MAX_NODES : goal.returns-then-at-gt-MAX_NODES
returns-then-at-gt-MAX_NODES c = wrote-past (stays_past _ (omega arith)) c.if-at-gt-MAX_NODES.true (omega arith)

pub returns-then-holds : goal.returns-then-holds
returns-then-holds c =
    wrote_true (omega arith) (search rules) c.put.ensures c.if-holds.true c.leaf-node.ensures

pub returns : goal.returns
returns c =
    wrote_false (omega arith) (search rules) c.put-2.ensures c.if-holds.false c.leaf-node-2.ensures
