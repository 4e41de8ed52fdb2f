use mathlib.Core.Path.{refl}
use Rattle.value_steps.specs.ParenLaws.{paren-inside, paren-steps}
use Rattle.machine.specs.ContractLaws.{steps_next}
use Rattle.value_steps.proofs.parens.paren.Goals as goal

pub overflow_sub-m : goal.overflow_sub-m
overflow_sub-m c =
    paren-inside c.requires.ready c.requires.parenthesis

pub returns : goal.returns
returns c =
    let at-came = c.came in
    steps_next at-came.ensures (paren-steps c.requires.parenthesis refl)
