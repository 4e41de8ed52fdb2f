-- `formulas::atom` meets its contract: each kind of its range has its step, and a numeral is no formula.
use mathlib.Core.Path.{ap}
use Rattle.operands.specs.Makings.{making_of}
use Rattle.machine_run.specs.ChoosingLaws.{ready, formless, steps-write}
use Rattle.machine_run.proofs.formulas.atom.Goals as goal

pub misfit-requires : goal.misfit-requires
misfit-requires c =
    let at-if2 = c.if-kind-eq-NUMERAL in
    record { ready = ready c.requires.ready_to_write; formless = formless c.requires.kinded (ap making_of at-if2.true) }

pub returns-then-kind-eq-NUMERAL : goal.returns-then-kind-eq-NUMERAL
returns-then-kind-eq-NUMERAL c =
    let at-misfit = c.misfit in
    steps-write at-misfit.ensures

pub returns-then-kind-eq-INDEX : goal.returns-then-kind-eq-INDEX
returns-then-kind-eq-INDEX c =
    let at-index = c.index in
    steps-write at-index.ensures

pub returns : goal.returns
returns c =
    let at-paren = c.paren in
    steps-write at-paren.ensures
