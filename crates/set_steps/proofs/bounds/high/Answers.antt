use native.Mathlib.Omega.{arith}
use mathlib.Core.Path.{refl}
use Rattle.set_steps.specs.BoundLaws.{high-steps}
use Rattle.machine.specs.ContractLaws.{takes_as}
use Rattle.machine.specs.OperandLaws.{topped-entry}
use Rattle.machine.specs.MisfitLaws.{number-misfits}
use Rattle.set_steps.proofs.bounds.high.Goals as goal

pub returns-then-m-ne-NUMBER : goal.returns-then-m-ne-NUMBER
returns-then-m-ne-NUMBER c =
    let at-if1 = c.if-m-ne-NUMBER in
    number-misfits c.requires.waiting refl at-if1.true

pub overflow_cast-k : goal.overflow_cast-k
overflow_cast-k c =
    let f = (topped-entry c.requires.topped).few in omega arith

pub number_at-requires : goal.number_at-requires
number_at-requires c =
    let f = topped-entry c.requires.topped in (f.few, f.work)

pub kind_at-under-requires : goal.kind_at-under-requires
kind_at-under-requires c =
    let f = topped-entry c.requires.topped in (f.few, f.work)

pub place_at-requires : goal.place_at-requires
place_at-requires c =
    let f = topped-entry c.requires.topped in (f.few, f.work)

pub returns : goal.returns
returns c =
    let at-if1 = c.if-m-ne-NUMBER in
    let at-number-at = c.number_at in
    let at-strict = c.strict-above in
    let at-kind-at = c.kind_at-under in
    let at-place-at = c.place_at in
    let at-between = c.between-r in
    let at-made = c.made in
    takes_as at-made.ensures
    (high-steps c.requires.waiting at-if1.false at-between.result refl at-number-at.ensures at-strict.ensures at-kind-at.ensures at-place-at.ensures refl at-between.ensures)
