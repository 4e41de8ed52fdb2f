use native.Mathlib.Omega.{arith}
use mathlib.Core.Path.{refl, ap, ◌∙◌}
use Rattle.set_steps.specs.MeasureLaws.{measured-placed, measured-steps}
use Rattle.machine.specs.declared.Machine.{Machine}
use Rattle.machine.specs.Moves.{numbered}
use Rattle.machine.specs.ContractLaws.{takes_as}
use Rattle.machine.specs.OperandLaws.{topped-entry}
use Rattle.machine.specs.MisfitLaws.{set-misfits}
use Rattle.set_steps.proofs.measures.measured.Goals as goal

pub returns-then-m-ne-SET : goal.returns-then-m-ne-SET
returns-then-m-ne-SET c =
    let at-if1 = c.if-m-ne-SET in
    set-misfits c.requires.waiting refl at-if1.true

pub overflow_cast-k : goal.overflow_cast-k
overflow_cast-k c =
    let f = (topped-entry c.requires.topped).few in omega arith

pub prefix_at-operator-requires : goal.prefix_at-operator-requires
prefix_at-operator-requires c =
    let f = topped-entry c.requires.topped in (f.few, f.work)

pub place_at-requires : goal.place_at-requires
place_at-requires c =
    let f = topped-entry c.requires.topped in (f.few, f.work)

pub measure-r-requires : goal.measure-r-requires
measure-r-requires c =
    let at-if1 = c.if-m-ne-SET in
    measured-placed c.requires.waiting at-if1.false c.requires.topped

pub popped-requires : goal.popped-requires
popped-requires c =
    let i = c.requires.topped.top.top.at.inside in let s = c.requires.topped.lent.small in omega arith

pub returns : goal.returns
returns c =
    let at-if1 = c.if-m-ne-SET in
    let at-prefix-at = c.prefix_at-operator in
    let at-place-at = c.place_at in
    let at-measure = c.measure-r in
    let at-popped = c.popped in
    let at-numbered = c.numbered in
    takes_as (at-numbered.ensures ∙ ap (λ (n : Machine). numbered n at-measure.result) at-popped.ensures)
    (measured-steps c.requires.waiting at-if1.false at-measure.result refl at-prefix-at.ensures at-place-at.ensures at-measure.ensures)
