use mathlib.Core.Path.{refl}
use Rattle.fold_steps.specs.NumberLaws.{first-foldable, first-steps}
use Rattle.machine.specs.MisfitLaws.{number-misfits}
use Rattle.fold_steps.proofs.numbers.first.Goals as goal

pub returns-then-m-ne-NUMBER : goal.returns-then-m-ne-NUMBER
returns-then-m-ne-NUMBER c =
    let at-if1 = c.if-m-ne-NUMBER in
    number-misfits c.requires.waiting refl at-if1.true

pub onward-requires : goal.onward-requires
onward-requires c =
    first-foldable c.requires.waiting c.requires.topped

pub returns : goal.returns
returns c =
    let at-if1 = c.if-m-ne-NUMBER in
    let at_Onward = c.onward in
    first-steps c.requires.waiting at-if1.false at_Onward.result at_Onward.ensures
