use mathlib.Core.Path.{refl}
use Rattle.fold_steps.specs.SetLaws.{first-foldable, first-steps}
use Rattle.machine.specs.MisfitLaws.{set-misfits}
use Rattle.fold_steps.proofs.set_folds.first.Goals as goal

pub returns-then-m-ne-SET : goal.returns-then-m-ne-SET
returns-then-m-ne-SET c =
    let at-if1 = c.if-m-ne-SET in
    set-misfits c.requires.waiting refl at-if1.true

pub onward-requires : goal.onward-requires
onward-requires c =
    let at-if1 = c.if-m-ne-SET in
    first-foldable c.requires.waiting at-if1.false c.requires.topped

pub returns : goal.returns
returns c =
    let at-if1 = c.if-m-ne-SET in
    let at_Onward = c.onward in
    first-steps c.requires.waiting at-if1.false at_Onward.result at_Onward.ensures
