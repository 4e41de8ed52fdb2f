-- `frames::every` meets its contract: the phases of big operators of formulas and of definitions, each with its step; the last is what is left.
use Rattle.machine_run.specs.ChoosingLaws.{takes_write}
use Rattle.machine_run.proofs.frames.every.Goals as goal

pub returns-then-phase-eq-FIRST_EACH : goal.returns-then-phase-eq-FIRST_EACH
returns-then-phase-eq-FIRST_EACH c =
    let at_first = c.first in
    takes_write at_first.ensures

pub returns-then-phase-eq-KEEP_FORMULA : goal.returns-then-phase-eq-KEEP_FORMULA
returns-then-phase-eq-KEEP_FORMULA c =
    let at-keep = c.keep in
    takes_write at-keep.ensures
