use native.Mathlib.Omega.{arith}
use Rattle.value_steps.specs.NumeralLaws.{numeral-steps}
use Rattle.machine.specs.ContractLaws.{steps_as}
use Rattle.machine.specs.OperandLaws.{ready-entry}
use Rattle.value_steps.proofs.numbers.numeral.Goals as goal

pub place_at-requires : goal.place_at-requires
place_at-requires c =
    ready-entry c.requires.ready (let e = c.requires.evaluates.mode in omega arith)

pub returns : goal.returns
returns c =
    let at-place-at = c.place_at in
    let at-numeral = c.numeral in
    let at-numbered = c.numbered in
    steps_as at-numbered.ensures (numeral-steps at-numeral.result c.requires.evaluates at-place-at.ensures at-numeral.ensures)
