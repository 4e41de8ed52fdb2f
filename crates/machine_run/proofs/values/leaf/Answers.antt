-- `values::leaf` meets its contract: the kinds of leaves and parentheses, each with its step; constants and bits come to a formula.
use native.Mathlib.Omega.{arith}
use Rattle.operands.specs.KindLaws.{leaf-class}
use Rattle.machine_run.specs.ChoosingLaws.{past, logical}
use Rattle.machine_run.proofs.values.leaf.Goals as goal

pub logic-requires : goal.logic-requires
logic-requires c =
    let at-if1 = c.if-kind-eq-NAMED in
    let at-if2 = c.if-kind-eq-NUMERAL in
    let at-if3 = c.if-kind-eq-PAREN in
    record { ready = c.requires.ready; logical = logical c.requires.kinded (leaf-class c.args.kind (past (past c.requires.kinded.from at-if1.false) at-if2.false) (let u = c.requires.kinded.until in omega (arith, at-if3.false))) }
