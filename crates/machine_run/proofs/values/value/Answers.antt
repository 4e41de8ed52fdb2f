-- `values::value` meets its contract: the kinds by ranges, each with the function for it.
use native.Mathlib.Omega.{arith}
use Rattle.machine.specs.OperandLaws.{ready-entry}
use Rattle.machine_run.specs.ChoosingLaws.{logical_in}
use Rattle.machine_run.proofs.values.value.Goals as goal

pub kind_at-kind-requires : goal.kind_at-kind-requires
kind_at-kind-requires c =
    let r = ready-entry c.requires.ready (let e = c.requires.mode_value in omega arith) in ((let l = r.0 in omega arith), r.1)

pub logic-requires : goal.logic-requires
logic-requires c =
    let at-kind-at = c.kind_at-kind in
    let at-if2 = c.if-kind-lt-EQUALITY in
    let at-if3 = c.if-kind-lt-BIG_NUMBERS in
    record { ready = c.requires.ready; logical = logical_in c.requires.mode_value at-kind-at.ensures (let l = at-if2.false in omega arith) at-if3.true }
