-- `right` meets its contract: what the two sets are combined to is lowered to where the frame's values begin, or a refusal is handed up.
use native.Mathlib.Omega.{arith}
use mathlib.Core.Path.{refl}
use Prim.Native.Nat.{◌+◌}
use Rattle.node.proofs.ReturnedLaws.{raised}
use Rattle.value_steps.specs.CombinedLaws.{right-two, right-lowers, right-makes, right-refuses}
use Rattle.machine.specs.Fields.{base_field, at_field, count_field}
use Rattle.machine.specs.MisfitLaws.{set-misfits}
use Rattle.machine.specs.OperandLaws.{topped-entry}
use Rattle.value_steps.proofs.combinations.right.Goals as goal

pub returns-then-m-ne-SET : goal.returns-then-m-ne-SET
returns-then-m-ne-SET c =
    set-misfits c.requires.waiting refl c.if-m-ne-SET.true

pub overflow_cast-k : goal.overflow_cast-k
overflow_cast-k c =
    let f = (topped-entry c.requires.topped).few in omega arith

pub overflow_cast-base : goal.overflow_cast-base
overflow_cast-base c =
    omega (arith, c.type_inv.memory (c.args.m.frames + base_field))

pub overflow_cast-left : goal.overflow_cast-left
overflow_cast-left c =
    omega (arith, c.type_inv.memory (c.args.m.frames + at_field))

pub overflow_cast-left-2 : goal.overflow_cast-left-2
overflow_cast-left-2 c =
    omega (arith, c.type_inv.memory (c.args.m.frames + count_field))

pub infix_at-operator-requires : goal.infix_at-operator-requires
infix_at-operator-requires c =
    let f = topped-entry c.requires.topped in (f.few, f.work)

pub place_at-place-requires : goal.place_at-place-requires
place_at-place-requires c =
    let f = topped-entry c.requires.topped in (f.few, f.work)

pub combine-requires : goal.combine-requires
combine-requires c =
    right-two c.requires.waiting c.if-m-ne-SET.false c.requires.topped refl refl c.above-to.ensures

pub returns-in_err-n : goal.returns-in_err-n
returns-in_err-n c =
    rw (raised c.from_residual.ensures)
    (right-refuses c.requires.waiting c.if-m-ne-SET.false
    (record { entry = refl; base-is = refl; left_at = refl; left-count = refl; to_is = c.above-to.ensures; operator = c.infix_at-operator.ensures; place = c.place_at-place.ensures })
    (rw c.in_err-n.was at c.combine.ensures))

pub lower-requires : goal.lower-requires
lower-requires c =
    let g = rw c.in_ok-n.was at c.combine.ensures in
    let l = right-lowers c.requires.waiting c.if-m-ne-SET.false c.requires.topped refl c.above-to.ensures g.set.few in
    let z = g.kept.len in
    (l.down, (let i = l.inside in omega arith))

pub overflow_add-result : goal.overflow_add-result
overflow_add-result c =
    let i = c.requires.topped.top.top.at.inside in let s = c.requires.topped.lent.small in omega arith

pub returns : goal.returns
returns c =
    right-makes c.requires.waiting c.if-m-ne-SET.false
    (record { entry = refl; base-is = refl; left_at = refl; left-count = refl; to_is = c.above-to.ensures; operator = c.infix_at-operator.ensures; place = c.place_at-place.ensures })
    (rw c.in_ok-n.was at c.combine.ensures) c.lower.ensures
