use Rattle.each_steps.specs.MisfitLaws.{misfit-steps}
use Rattle.each_steps.proofs.misfits.misfit.Goals as goal

pub returns : goal.returns
returns c =
    misfit-steps c.requires.formless
