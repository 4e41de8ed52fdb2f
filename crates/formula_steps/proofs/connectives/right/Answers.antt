-- `connectives::right` meets its contract: the nodes that have come stand behind those of the left operand, and are joined to them.
use native.Mathlib.Omega.{arith}
use Rattle.std.specs.Prelude.{Ok}
use Rattle.machine.specs.declared.Move.TheVariants.{Next}
use mathlib.Core.Path.{refl, ap, ◌∙◌}
use Prim.Native.Nat.{◌+◌}
use Rattle.formula_steps.specs.ConnectiveLaws.{right-small, right-steps}
use Rattle.machine.specs.Fields.{value_field}
use Rattle.machine.specs.declared.Machine.{Machine}
use Rattle.machine.specs.Moves.{wrote}
use Rattle.machine.specs.ContractLaws.{takes-to-write-as}
use Rattle.machine.specs.OperandLaws.{topped_to_write-entry}
use Rattle.machine.specs.MisfitLaws.{formula-misfits, misfits-still}
use Rattle.formula_steps.proofs.connectives.right.Goals as goal

pub returns-then-m-ne-NODES : goal.returns-then-m-ne-NODES
returns-then-m-ne-NODES c =
    let at-if1 = c.if-m-ne-NODES in
    misfits-still (formula-misfits c.requires.waiting refl at-if1.true)

pub overflow_cast-k : goal.overflow_cast-k
overflow_cast-k c =
    let f = (topped_to_write-entry c.requires.topped_to_write).few in omega arith

pub overflow_cast-first : goal.overflow_cast-first
overflow_cast-first c =
    omega (arith, c.type_inv.memory (c.args.m.frames + value_field))

pub infix_at-requires : goal.infix_at-requires
infix_at-requires c =
    let f = topped_to_write-entry c.requires.topped_to_write in (f.few, f.work)

pub join-n-requires : goal.join-n-requires
join-n-requires c =
    let at-infix-at = c.infix_at in
    let l = right-small c.requires.waiting c.requires.topped_to_write in let e = at-infix-at.ensures in omega arith

pub returns : goal.returns
returns c =
    let at-if1 = c.if-m-ne-NODES in
    let at-infix-at = c.infix_at in
    let at_join = c.join-n in
    let at-popped = c.popped in
    let at-capped = c.capped in
    let at-wrote = c.wrote in
    takes-to-write-as (ap (λ (y : Machine). Ok (Next y)) (at-wrote.ensures ∙ ap (λ (n : Machine). wrote n at-capped.result) at-popped.ensures))
    (right-steps c.requires.waiting at-if1.false refl at-infix-at.ensures refl at_join.ensures at-capped.ensures)
