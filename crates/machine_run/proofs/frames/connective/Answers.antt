-- `frames::connective` meets its contract: the phases of operators of formulas, comparisons and membership, each with its step; the last is what is left.
use Rattle.machine_run.specs.ChoosingLaws.{takes_write}
use Rattle.machine_run.proofs.frames.connective.Goals as goal

pub returns-then-phase-eq-LEFT_FORMULA : goal.returns-then-phase-eq-LEFT_FORMULA
returns-then-phase-eq-LEFT_FORMULA c =
    let at_left_lem = c.left in
    takes_write at_left_lem.ensures

pub returns-then-phase-eq-LEFT_COMPARED : goal.returns-then-phase-eq-LEFT_COMPARED
returns-then-phase-eq-LEFT_COMPARED c =
    let at-left2 = c.left-then-phase-eq-LEFT_COMPARED in
    takes_write at-left2.ensures

pub returns-then-phase-eq-MEMBER : goal.returns-then-phase-eq-MEMBER
returns-then-phase-eq-MEMBER c =
    let at-number = c.number in
    takes_write at-number.ensures
