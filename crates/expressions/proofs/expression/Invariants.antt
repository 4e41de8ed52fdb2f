-- `expressions::expression` meets its contract. The loop's invariant: whatever the tokens are, the state goes on from the start; the measure is what is left to do.
use Rattle.expressions.specs.States.{weight}
use Rattle.expressions.specs.Running.{Running}
use Rattle.expressions.proofs.expression.Given as goal

abbrev pub invariant-loop-n : goal.invariant-loop-n
invariant-loop-n l = Running l.initial.work l.initial.m.c l.work l.m

abbrev pub decreases-loop-n : goal.decreases-loop-n
decreases-loop-n l = weight l.m
