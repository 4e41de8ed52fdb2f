-- `frames::take` meets its contract: the phases by ranges, each with the function for it.
use native.Mathlib.Omega.{arith}
use mathlib.Core.Path.{refl}
use Rattle.machine_run.specs.ChoosingLaws.{takes_write, phases_few}
use Rattle.machine_run.proofs.frames.take.Goals as goal

pub returns-then-phase-lt-LOW : goal.returns-then-phase-lt-LOW
returns-then-phase-lt-LOW c =
    let at-operation = c.operation in
    takes_write at-operation.ensures

pub returns-then-phase-lt-OVER : goal.returns-then-phase-lt-OVER
returns-then-phase-lt-OVER c =
    let at-collection = c.collection in
    takes_write at-collection.ensures

pub returns-then-phase-lt-CAPPING : goal.returns-then-phase-lt-CAPPING
returns-then-phase-lt-CAPPING c =
    let at-fold = c.fold in
    takes_write at-fold.ensures

pub every-requires : goal.every-requires
every-requires c =
    let at-if5 = c.if-phase-lt-OVER_EACH in
    record { topped_to_write = c.requires; phased = record { same = refl; from = (let l = at-if5.false in omega arith); until = phases_few c.requires } }
