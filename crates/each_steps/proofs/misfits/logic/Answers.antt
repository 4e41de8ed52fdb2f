use Rattle.machine.specs.ContractLaws.{steps_next}
use Rattle.each_steps.specs.MisfitLaws.{logic-steps}
use Rattle.each_steps.proofs.misfits.logic.Goals as goal

pub returns : goal.returns
returns c =
    let at-came = c.came in
    steps_next at-came.ensures (logic-steps c.requires.logical)
