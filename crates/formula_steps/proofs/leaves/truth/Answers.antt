use native.Mathlib.Omega.{arith}
use Rattle.std.specs.Prelude.{Ok}
use Rattle.machine.specs.declared.Machine.{Machine}
use Rattle.machine.specs.declared.Move.TheVariants.{Next}
use mathlib.Core.Path.{refl, ap}
use Rattle.formula_steps.specs.TruthLaws.{written_entry, truth-steps}
use Rattle.machine.specs.ContractLaws.{writes_as}
use Rattle.formula_steps.proofs.leaves.truth.Goals as goal

pub number_at-requires : goal.number_at-requires
number_at-requires c =
    written_entry c.requires.ready_to_write (let e = c.requires.expands.mode in omega arith)

pub returns : goal.returns
returns c =
    let at-number-at = c.number_at in
    let at_constant = c.constant-n in
    let at-capped = c.capped in
    let at-wrote = c.wrote in
    writes_as (ap (λ (y : Machine). Ok (Next y)) at-wrote.ensures) (truth-steps c.requires.expands at-number-at.ensures refl at_constant.ensures at-capped.ensures)
