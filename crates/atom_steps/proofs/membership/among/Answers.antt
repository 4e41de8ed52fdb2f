use mathlib.Core.Path.{refl, ap, ◌∙◌}
use Rattle.std.specs.Prelude.{Ok}
use Rattle.machine.specs.declared.Move.TheVariants.{Next}
use Rattle.atom_steps.specs.MembershipLaws.{among-placed, among-steps}
use Rattle.machine.specs.declared.Machine.{Machine}
use Rattle.machine.specs.Moves.{wrote}
use Rattle.machine.specs.ContractLaws.{takes-to-write-as}
use Rattle.machine.specs.MisfitLaws.{set-misfits, misfits-still}
use Rattle.atom_steps.proofs.membership.among.Goals as goal

pub returns-then-m-ne-SET : goal.returns-then-m-ne-SET
returns-then-m-ne-SET c =
    let at-if1 = c.if-m-ne-SET in
    misfits-still (set-misfits c.requires.waiting refl at-if1.true)

pub contains-requires : goal.contains-requires
contains-requires c =
    let at-if1 = c.if-m-ne-SET in
    among-placed c.requires.waiting at-if1.false c.requires.topped_to_write

pub returns : goal.returns
returns c =
    let at-if1 = c.if-m-ne-SET in
    let at-contains = c.contains in
    let at_constant = c.constant-n in
    let at-popped = c.popped in
    let at-capped = c.capped in
    let at-wrote = c.wrote in
    takes-to-write-as (ap (λ (y : Machine). Ok (Next y)) (at-wrote.ensures ∙ ap (λ (n : Machine). wrote n at-capped.result) at-popped.ensures))
    (among-steps c.requires.waiting at-if1.false refl at-contains.ensures at_constant.ensures at-capped.ensures)
