-- `cycle::apart` and `cycle::evaluate` meet their contracts. What is left to do falls in the loop; an entry that finds no room costs less than the whole.
use Rattle.machine_run.specs.CycleLaws as cycles
use Rattle.machine.specs.States.{cost}
use Rattle.machine.specs.Cost.{price}
use Rattle.operands.specs.Working.{source}
use Prim.Native.Nat.{suc, ◌+◌, ◌*◌}
use Rattle.machine_run.proofs.cycle.+apart_evaluate.Given as goal

abbrev pub decreases-apart : goal.decreases-apart
decreases-apart l = 2 * price (suc l.m.value) + 1

abbrev pub decreases-evaluate : goal.decreases-evaluate
decreases-evaluate l = 2 * price (suc l.m.value)

abbrev pub invariant-evaluate-loop-n : goal.invariant-evaluate-loop-n
invariant-evaluate-loop-n l = cycles.Runs (source l.source.text.now l.source.work.now l.source.refs.now) l.initial.memory l.initial.table l.initial.n l.memory l.table l.n

abbrev pub decreases-evaluate-loop-n : goal.decreases-evaluate-loop-n
decreases-evaluate-loop-n l = cost l.memory l.n
