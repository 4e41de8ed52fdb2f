-- `write` meets its contract: one word, or two that follow each other.
use native.Mathlib.Omega.{arith}
use Rattle.shifting.specs.NodeLaws.{write-plain, write-past, write-next}
use Rattle.shifting.proofs.write.Goals as goal

pub returns-then-at-ge-MAX_NODES : goal.returns-then-at-ge-MAX_NODES
returns-then-at-ge-MAX_NODES c = write-past _ c.if-late.true (omega (arith, c.if-at-ge-MAX_NODES.true)) (omega arith)

pub returns-then-late : goal.returns-then-late
returns-then-late c =
    write-next _ c.if-late.true c.put-next.ensures c.unary.ensures c.put.ensures

pub returns : goal.returns
returns c = write-plain _ c.if-late.false c.put-next.ensures
