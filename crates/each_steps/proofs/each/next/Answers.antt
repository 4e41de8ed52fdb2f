-- `each::next` meets its contract: nodes have come, which are joined to those folded before.
use Prim.Native.Nat.{◌+◌}
use mathlib.Core.Path.{refl}
use native.Mathlib.Omega.{arith}
use Rattle.machine.specs.Fields.{value_field}
use Rattle.machine.specs.OperandLaws.{topped_to_write-entry}
use Rattle.each_steps.specs.EachLaws.{next-turnable, next_small, next-steps}
use Rattle.machine.specs.MisfitLaws.{formula-misfits, misfits-still}
use Rattle.each_steps.proofs.each.next.Goals as goal

pub returns-then-m-ne-NODES : goal.returns-then-m-ne-NODES
returns-then-m-ne-NODES c =
    let at-if1 = c.if-m-ne-NODES in
    misfits-still (formula-misfits c.requires.waiting refl at-if1.true)

pub overflow_cast-k : goal.overflow_cast-k
overflow_cast-k c =
    let f = (topped_to_write-entry c.requires.topped_to_write).few in omega arith

pub overflow_cast-folded : goal.overflow_cast-folded
overflow_cast-folded c =
    omega (arith, c.type_inv.memory (c.args.m.frames + value_field))

pub prefix_at-requires : goal.prefix_at-requires
prefix_at-requires c =
    let f = topped_to_write-entry c.requires.topped_to_write in (f.few, f.work)

pub join-n-requires : goal.join-n-requires
join-n-requires c =
    let at-prefix-at = c.prefix_at in
    let l = next_small c.requires.waiting c.requires.topped_to_write in let e = at-prefix-at.ensures in omega arith

pub onward-requires : goal.onward-requires
onward-requires c =
    let at-capped = c.capped in
    next-turnable c.requires.waiting c.requires.topped_to_write (let e = at-capped.ensures in omega arith)

pub returns : goal.returns
returns c =
    let at-if1 = c.if-m-ne-NODES in
    let at-prefix-at = c.prefix_at in
    let at_join = c.join-n in
    let at-capped = c.capped in
    let at_Onward = c.onward in
    next-steps c.requires.waiting at-if1.false refl at-prefix-at.ensures refl at_join.ensures at-capped.ensures at_Onward.ensures
