-- `frames::window` meets its contract: the phases of a bit's index, `X[n]` and windows, each with its step; the last is what is left.
use Rattle.machine_run.specs.ChoosingLaws.{takes_write}
use Rattle.machine_run.proofs.frames.window.Goals as goal

pub returns-then-phase-eq-REPEAT : goal.returns-then-phase-eq-REPEAT
returns-then-phase-eq-REPEAT c =
    let at-number = c.number in
    takes_write at-number.ensures

pub returns-then-phase-eq-WINDOW_FROM : goal.returns-then-phase-eq-WINDOW_FROM
returns-then-phase-eq-WINDOW_FROM c =
    let at_from = c.from in
    takes_write at_from.ensures

pub returns-then-phase-eq-WINDOW_TO : goal.returns-then-phase-eq-WINDOW_TO
returns-then-phase-eq-WINDOW_TO c =
    let at-to = c.to in
    takes_write at-to.ensures
