use native.Mathlib.Omega.{arith}
use mathlib.Core.Path.{refl}
use Rattle.set_steps.specs.RangeLaws.{last-steps}
use Rattle.machine.specs.ContractLaws.{takes_as}
use Rattle.machine.specs.OperandLaws.{topped-entry}
use Rattle.machine.specs.MisfitLaws.{number-misfits}
use Rattle.set_steps.proofs.ranges.last.Goals as goal

pub returns-then-m-ne-NUMBER : goal.returns-then-m-ne-NUMBER
returns-then-m-ne-NUMBER c =
    let at-if1 = c.if-m-ne-NUMBER in
    number-misfits c.requires.waiting refl at-if1.true

pub overflow_cast-k : goal.overflow_cast-k
overflow_cast-k c =
    let f = (topped-entry c.requires.topped).few in omega arith

pub place_at-requires : goal.place_at-requires
place_at-requires c =
    let f = topped-entry c.requires.topped in (f.few, f.work)

pub returns : goal.returns
returns c =
    let at-if1 = c.if-m-ne-NUMBER in
    let at-place-at = c.place_at in
    let at-range = c.range-r in
    let at-made = c.made in
    takes_as at-made.ensures
    (last-steps c.requires.waiting at-if1.false at-range.result refl at-place-at.ensures refl refl at-range.ensures)
