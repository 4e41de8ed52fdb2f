-- `signal` meets its contract: the node is the signal's.
use Rattle.writing.specs.StepLaws.{wrote-past, wrote-signal}
use native.Mathlib.Omega.{arith}
use Rattle.writing.proofs.signal.Goals as goal

pub returns-then-at-gt-MAX_NODES : goal.returns-then-at-gt-MAX_NODES
returns-then-at-gt-MAX_NODES c = wrote-past _ c.if-at-gt-MAX_NODES.true (omega arith)

pub returns : goal.returns
returns c = wrote-signal c.told-out c.unwrap_or.ensures c.requires c.signal.ensures
