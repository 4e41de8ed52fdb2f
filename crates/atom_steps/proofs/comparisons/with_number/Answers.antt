use native.Mathlib.Omega.{arith}
use Rattle.std.specs.Prelude.{Ok}
use Rattle.machine.specs.declared.Move.TheVariants.{Next}
use mathlib.Core.Path.{refl, ap, ◌∙◌}
use Rattle.atom_steps.specs.ComparisonLaws.{number-misfits, number-steps}
use Rattle.machine.specs.declared.Machine.{Machine}
use Rattle.machine.specs.Moves.{wrote}
use Rattle.machine.specs.ContractLaws.{takes-to-write-as}
use Rattle.machine.specs.OperandLaws.{topped_to_write-entry}
use Rattle.atom_steps.proofs.comparisons.with_number.Goals as goal

pub returns-then-m-ne-NUMBER : goal.returns-then-m-ne-NUMBER
returns-then-m-ne-NUMBER c =
    let at-if1 = c.if-m-ne-NUMBER in
    number-misfits c.requires.comparing at-if1.true

pub overflow_cast-k : goal.overflow_cast-k
overflow_cast-k c =
    let f = (topped_to_write-entry c.requires.topped_to_write).few in omega arith

pub infix_at-operator-requires : goal.infix_at-operator-requires
infix_at-operator-requires c =
    let f = topped_to_write-entry c.requires.topped_to_write in (f.few, f.work)

pub returns : goal.returns
returns c =
    let at-if1 = c.if-m-ne-NUMBER in
    let at-infix-at = c.infix_at-operator in
    let at-compare = c.compare in
    let at_constant = c.constant-n in
    let at-popped = c.popped in
    let at-capped = c.capped in
    let at-wrote = c.wrote in
    takes-to-write-as (ap (λ (y : Machine). Ok (Next y)) (at-wrote.ensures ∙ ap (λ (n : Machine). wrote n at-capped.result) at-popped.ensures))
    (number-steps c.requires.comparing at-if1.false at-infix-at.ensures refl at-compare.ensures at_constant.ensures at-capped.ensures)
