-- `deliver` meets its contract: the formula does not fit the table or a buffer, or it is handed over.
use native.Mathlib.Omega.{arith}
use Rattle.ending.proofs.HandingLaws.{deliver_large, deliver-nodes, deliver-signals, deliver-all}
use Rattle.ending.proofs.deliver.Goals as goal

pub returns-then-m-gt-MAX_NODES : goal.returns-then-m-gt-MAX_NODES
returns-then-m-gt-MAX_NODES c = deliver_large _ _ _ (omega (arith, c.if-m-gt-MAX_NODES.true))

pub returns-then-nodes-m : goal.returns-then-nodes-m
returns-then-nodes-m c = deliver-nodes _ _ _ (omega (arith, c.if-m-gt-MAX_NODES.false)) (omega (arith, c.if-nodes-m.true))

pub returns-then-signals-n : goal.returns-then-signals-n
returns-then-signals-n c =
    deliver-signals _ _ _ (omega (arith, c.if-m-gt-MAX_NODES.false)) (omega (arith, c.if-signals-n.true))

pub returns : goal.returns
returns c =
    deliver-all _ _ _ (omega (arith, c.if-m-gt-MAX_NODES.false)) (omega (arith, c.if-nodes-m.false)) (omega (arith, c.if-signals-n.false))
    c.copy_out.ensures c.copy_words.ensures
