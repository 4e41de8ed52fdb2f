use native.Mathlib.Omega.{arith}
use mathlib.Core.Path.{refl, ap, ◌∙◌}
use Rattle.value_steps.specs.ArithmeticLaws.{right-steps}
use Rattle.machine.specs.declared.Machine.{Machine}
use Rattle.machine.specs.Moves.{numbered}
use Rattle.machine.specs.ContractLaws.{takes_as}
use Rattle.machine.specs.MisfitLaws.{number-misfits}
use Rattle.machine.specs.OperandLaws.{topped-entry}
use Rattle.value_steps.proofs.numbers.right.Goals as goal

pub returns-then-m-ne-NUMBER : goal.returns-then-m-ne-NUMBER
returns-then-m-ne-NUMBER c =
    let at-if1 = c.if-m-ne-NUMBER in
    number-misfits c.requires.waiting refl at-if1.true

pub overflow_cast-k : goal.overflow_cast-k
overflow_cast-k c =
    let f = (topped-entry c.requires.topped).few in omega arith

pub infix_at-operator-requires : goal.infix_at-operator-requires
infix_at-operator-requires c =
    let f = topped-entry c.requires.topped in (f.few, f.work)

pub place_at-requires : goal.place_at-requires
place_at-requires c =
    let f = topped-entry c.requires.topped in (f.few, f.work)

pub returns : goal.returns
returns c =
    let at-if1 = c.if-m-ne-NUMBER in
    let at-infix-at = c.infix_at-operator in
    let at-place-at = c.place_at in
    let at-calculate = c.calculate-r in
    let at-popped = c.popped in
    let at-numbered = c.numbered in
    takes_as (at-numbered.ensures ∙ ap (λ (n : Machine). numbered n at-calculate.result) at-popped.ensures)
    (right-steps c.requires.waiting at-if1.false at-calculate.result refl at-infix-at.ensures at-place-at.ensures refl at-calculate.ensures)
