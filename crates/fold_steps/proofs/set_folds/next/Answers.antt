-- `next` meets its contract: what was folded and what has come are combined below the frames, or a refusal is handed up.
use native.Mathlib.Omega.{arith}
use Prim.Native.Nat.{◌+◌}
use mathlib.Core.Path.{refl}
use Rattle.node.proofs.ReturnedLaws.{raised}
use Rattle.machine.specs.Fields.{value_field, other_field}
use Rattle.machine.specs.OperandLaws.{topped-entry}
use Rattle.fold_steps.specs.SetLaws.{next-two, next-foldable, next-refuses, next-steps}
use Rattle.machine.specs.MisfitLaws.{set-misfits}
use Rattle.fold_steps.proofs.set_folds.next.Goals as goal

pub returns-then-m-ne-SET : goal.returns-then-m-ne-SET
returns-then-m-ne-SET c =
    set-misfits c.requires.waiting refl c.if-m-ne-SET.true

pub overflow_cast-k : goal.overflow_cast-k
overflow_cast-k c =
    let f = (topped-entry c.requires.topped).few in omega arith

pub overflow_cast-folded : goal.overflow_cast-folded
overflow_cast-folded c =
    omega (arith, c.type_inv.memory (c.args.m.frames + other_field))

pub overflow_cast-folded-2 : goal.overflow_cast-folded-2
overflow_cast-folded-2 c =
    omega (arith, c.type_inv.memory (c.args.m.frames + value_field))

pub prefix_at-operator-requires : goal.prefix_at-operator-requires
prefix_at-operator-requires c =
    let f = topped-entry c.requires.topped in (f.few, f.work)

pub place_at-place-requires : goal.place_at-place-requires
place_at-place-requires c =
    let f = topped-entry c.requires.topped in (f.few, f.work)

pub combine-requires : goal.combine-requires
combine-requires c =
    next-two c.requires.waiting c.if-m-ne-SET.false refl refl refl c.requires.topped

pub returns-in_err-n : goal.returns-in_err-n
returns-in_err-n c =
    rw (raised c.from_residual.ensures)
    (next-refuses c.requires.waiting c.if-m-ne-SET.false {i = c.prefix_at-operator.result}
    (record { entry = refl; operator = c.prefix_at-operator.ensures; place = c.place_at-place.ensures; folded-at = refl; folded-count = refl; to_is = refl })
    (rw c.in_err-n.was at c.combine.ensures))

pub onward-requires : goal.onward-requires
onward-requires c =
    next-foldable c.requires.waiting c.if-m-ne-SET.false {i = c.prefix_at-operator.result}
    (record { entry = refl; operator = c.prefix_at-operator.ensures; place = c.place_at-place.ensures; folded-at = refl; folded-count = refl; to_is = refl })
    (rw c.in_ok-n.was at c.combine.ensures) c.requires.topped

pub returns : goal.returns
returns c =
    next-steps c.requires.waiting c.if-m-ne-SET.false {i = c.prefix_at-operator.result}
    (record { entry = refl; operator = c.prefix_at-operator.ensures; place = c.place_at-place.ensures; folded-at = refl; folded-count = refl; to_is = refl })
    (rw c.in_ok-n.was at c.combine.ensures) c.onward.result c.onward.ensures
