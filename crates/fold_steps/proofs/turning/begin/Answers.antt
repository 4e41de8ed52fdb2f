use Rattle.fold_steps.specs.TurningLaws.{turns-above}
use Rattle.fold_steps.proofs.turning.begin.Goals as goal

pub returns : goal.returns
returns c =
    let at_above = c.above in
    let at_turn = c.turn in
    turns-above at_above.ensures at_turn.ensures
