-- `formulas::operator` meets its contract: each kind of its range has its step, and operators of numbers and sets are no formulas.
use native.Mathlib.Omega.{arith}
use Rattle.operands.specs.MakingLaws.{misfit_measures, misfit_values}
use Rattle.machine_run.specs.ChoosingLaws.{formless}
use Rattle.machine_run.proofs.formulas.operator.Goals as goal

pub misfit-requires : goal.misfit-requires
misfit-requires c =
    let at-if1 = c.if-kind-lt-UNARY in
    record { ready = c.requires.ready; formless = formless c.requires.kinded (misfit_measures c.args.kind c.requires.kinded.from at-if1.true) }

pub misfit-requires-then-kind-lt-EQUALITY : goal.misfit-requires-then-kind-lt-EQUALITY
misfit-requires-then-kind-lt-EQUALITY c =
    let at-if2 = c.if-kind-lt-ARITHMETIC in
    let at-if3 = c.if-kind-lt-EQUALITY in
    record { ready = c.requires.ready; formless = formless c.requires.kinded (misfit_values c.args.kind (let l = at-if2.false in omega arith) at-if3.true) }
