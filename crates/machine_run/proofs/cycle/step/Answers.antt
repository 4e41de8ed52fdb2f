-- `cycle::step` meets its contract: the mode says whether an entry is worked out, and how, or a frame takes what has come.
use native.Mathlib.Omega.{arith}
use Rattle.machine_run.specs.ChoosingLaws.{past, steps-write}
use Rattle.machine_run.specs.CycleLaws.{topped, takes-steps}
use Rattle.machine_run.proofs.cycle.step.Goals as goal

pub returns-then-m-eq-EVALUATE : goal.returns-then-m-eq-EVALUATE
returns-then-m-eq-EVALUATE c =
    let at_value = c.value in
    steps-write at_value.ensures

pub take-requires : goal.take-requires
take-requires c =
    let at-if1 = c.if-m-eq-EVALUATE in
    let at-if2 = c.if-m-eq-EXPAND in
    topped c.requires.ready_to_write c.requires.going (past (past (omega arith) at-if1.false) at-if2.false)

pub returns : goal.returns
returns c =
    let at-if1 = c.if-m-eq-EVALUATE in
    let at-if2 = c.if-m-eq-EXPAND in
    let at_take = c.take in
    takes-steps c.requires.going (past (past (omega arith) at-if1.false) at-if2.false) at_take.ensures
