use mathlib.Core.Path.{refl}
use Rattle.each_steps.specs.EachLaws.{first-turnable, first-steps}
use Rattle.machine.specs.MisfitLaws.{formula-misfits}
use Rattle.each_steps.proofs.each.first.Goals as goal

pub returns-then-m-ne-NODES : goal.returns-then-m-ne-NODES
returns-then-m-ne-NODES c =
    let at-if1 = c.if-m-ne-NODES in
    formula-misfits c.requires.waiting refl at-if1.true

pub onward-requires : goal.onward-requires
onward-requires c =
    first-turnable c.requires.waiting c.requires.topped

pub returns : goal.returns
returns c =
    let at-if1 = c.if-m-ne-NODES in
    let at_Onward = c.onward in
    first-steps c.requires.waiting at-if1.false at_Onward.ensures
