-- `ordering::order` meets its contract: the loop keeps what RunLaws says of it, and each turn lets a node wait or gives one a number.
use Rattle.ordering.specs.RunLaws.{Running, left}
use Rattle.ordering.proofs.order.Given as goal

abbrev pub invariant-loop-operand : goal.invariant-loop-operand
invariant-loop-operand l = Running l.nodes l.root l.initial.out l.out l.memo l.waiting l.depth l.i

abbrev pub decreases-loop-operand : goal.decreases-loop-operand
decreases-loop-operand l = left l.memo l.depth
