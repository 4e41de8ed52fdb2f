use native.Mathlib.Omega.{arith}
use mathlib.Core.Path.{refl}
use Rattle.value_steps.specs.CombinationLaws.{set-numbered, left-steps}
use Rattle.machine.specs.MisfitLaws.{set-misfits}
use Rattle.machine.specs.OperandLaws.{topped-entry}
use Rattle.value_steps.proofs.combinations.left.Goals as goal

pub returns-then-m-ne-SET : goal.returns-then-m-ne-SET
returns-then-m-ne-SET c =
    let at-if1 = c.if-m-ne-SET in
    set-misfits c.requires.waiting refl at-if1.true

pub frame-requires : goal.frame-requires
frame-requires c =
    let at-if1 = c.if-m-ne-SET in
    let n = set-numbered c.requires.topped at-if1.false in
    record { frame_words_in_bounds = c.requires.topped.top.top.at.inside; base_bound = (n.top, (n.from, omega arith)) }

pub overflow_sub-result : goal.overflow_sub-result
overflow_sub-result c =
    (topped-entry c.requires.topped).some

pub returns : goal.returns
returns c =
    let at-if1 = c.if-m-ne-SET in
    let at_above = c.above-top in
    let at-frame = c.frame in
    left-steps c.requires.waiting at-if1.false refl at_above.ensures at-frame.ensures
