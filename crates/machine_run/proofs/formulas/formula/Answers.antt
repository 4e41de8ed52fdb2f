-- `formulas::formula` meets its contract: the kinds by ranges, each with the function for it.
use native.Mathlib.Omega.{arith}
use Rattle.machine.specs.OperandLaws.{ready-entry}
use Rattle.machine_run.specs.ChoosingLaws.{ready, steps-write, formless_in}
use Rattle.machine_run.proofs.formulas.formula.Goals as goal

pub kind_at-kind-requires : goal.kind_at-kind-requires
kind_at-kind-requires c =
    let r = ready-entry (ready c.requires.ready_to_write) (let e = c.requires.mode_value in omega arith) in ((let l = r.0 in omega arith), r.1)

pub returns-then-kind-lt-BINARY : goal.returns-then-kind-lt-BINARY
returns-then-kind-lt-BINARY c =
    let at-operator = c.operator in
    steps-write at-operator.ensures

pub returns-then-kind-lt-BINDER : goal.returns-then-kind-lt-BINDER
returns-then-kind-lt-BINDER c =
    let at_joined = c.joined in
    steps-write at_joined.ensures

pub misfit-requires : goal.misfit-requires
misfit-requires c =
    let at-kind-at = c.kind_at-kind in
    let at-if3 = c.if-kind-lt-BINDER in
    record { ready = ready c.requires.ready_to_write; formless = formless_in c.requires.mode_value at-kind-at.ensures (let l = at-if3.false in omega arith) }

pub returns : goal.returns
returns c =
    let at-misfit = c.misfit in
    steps-write at-misfit.ensures
