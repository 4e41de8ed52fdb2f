-- `constant` meets its contract: the node of either kind is the constant's.
use Rattle.writing.specs.StepLaws.{wrote-past, wrote_true, wrote_false}
use native.Mathlib.Omega.{arith}
use Rattle.writing.proofs.constant.Goals as goal

pub returns-then-at-gt-MAX_NODES : goal.returns-then-at-gt-MAX_NODES
returns-then-at-gt-MAX_NODES c = wrote-past _ c.if-at-gt-MAX_NODES.true (omega arith)

pub returns-then-holds : goal.returns-then-holds
returns-then-holds c = wrote_true c.told-out c.unwrap_or.ensures c.if-holds.true c.constant.ensures

pub returns : goal.returns
returns c = wrote_false c.told-out c.unwrap_or-2.ensures c.if-holds.false c.constant-2.ensures
