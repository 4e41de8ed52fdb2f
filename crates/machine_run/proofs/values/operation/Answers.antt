-- `values::operation` meets its contract: the kinds of operators, each with its step; those of formulas come to a formula.
use native.Mathlib.Omega.{arith}
use Rattle.operands.specs.KindLaws.{unary-class}
use Rattle.machine_run.specs.ChoosingLaws.{past, logical}
use Rattle.machine_run.proofs.values.operation.Goals as goal

pub logic-requires : goal.logic-requires
logic-requires c =
    let at-if1 = c.if-kind-lt-WIDTH in
    let at-if2 = c.if-kind-eq-WIDTH in
    let at-if3 = c.if-kind-lt-ARITHMETIC in
    record { ready = c.requires.ready; logical = logical c.requires.kinded (unary-class c.args.kind (past (let l = at-if1.false in omega arith) at-if2.false) at-if3.true) }
