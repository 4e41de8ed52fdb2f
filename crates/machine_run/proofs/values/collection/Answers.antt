-- `values::collection` meets its contract: the kinds of big operators, bounds, braces and ranges, each with its step.
use native.Mathlib.Omega.{arith}
use Rattle.machine_run.specs.KindLaws.{bounds_some, range-alone}
use Rattle.machine_run.specs.ChoosingLaws.{past, collects}
use Rattle.machine_run.proofs.values.collection.Goals as goal

pub bounds-requires : goal.bounds-requires
bounds-requires c =
    let at-if1 = c.if-kind-lt-BINDER in
    let at-if2 = c.if-kind-lt-LISTED in
    record { ready = c.requires.ready; evaluates = collects c.requires.collected (bounds_some c.requires.ready c.requires.collected (let l = at-if1.false in omega arith) at-if2.true) at-if2.true }

pub stepping-requires : goal.stepping-requires
stepping-requires c =
    let at-if2 = c.if-kind-lt-LISTED in
    let at-if3 = c.if-kind-eq-LISTED in
    let e = range-alone c.requires.ready c.requires.collected (past (let l = at-if2.false in omega arith) at-if3.false) in record { ready = c.requires.ready; evaluates = collects c.requires.collected (omega arith) (omega arith) }
