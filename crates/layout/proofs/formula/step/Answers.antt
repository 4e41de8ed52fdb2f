-- `step` meets its contract: the node on top owes its next piece first.
use Prim.Native.Nat.{◌-◌}
use mathlib.Core.Path.{sym, ◌∙◌}
use native.Mathlib.Omega.{arith}
use lib.ListN.{length-set}
use Rattle.layout.specs.StackLaws.{high, stack_fits, node-inside, top-at, kind-small, done-small, top_writable, piece-room, turn_last, turn_more}
use Rattle.layout.proofs.formula.step.Goals as goal

pub offset_bounds-stack-top : goal.offset_bounds-stack-top
offset_bounds-stack-top c =
    omega (arith, high c.requires.pieces_value.1.0 c.requires.pieces_value.1.1.0 c.requires.pieces_value.1.1.1)

pub bounds-stack-top : goal.bounds-stack-top
bounds-stack-top c =
    omega (arith, high c.requires.pieces_value.1.0 c.requires.pieces_value.1.1.0 c.requires.pieces_value.1.1.1, c.requires.pieces_value.1.1.0.room)

pub overflow_cast-done : goal.overflow_cast-done
overflow_cast-done c =
    omega (arith, c.type_inv.stack (c.args.height - 1))

pub bounds-nodes-i : goal.bounds-nodes-i
bounds-nodes-i c =
    node-inside c.requires.pieces_value.1.0 c.requires.pieces_value.1.1.0 c.requires.pieces_value.1.1.1

pub put_piece-next-requires : goal.put_piece-next-requires
put_piece-next-requires c =
    let t = top-at c.requires.pieces_value.1.0 c.requires.pieces_value.1.1.0 c.requires.pieces_value.1.1.1 c.kind-kind.ensures c.first-first.ensures in
    record { pieces_value = (c.requires.pieces_value.0, (kind-small t, done-small t)); writable = (top_writable t, piece-room t _ _ c.requires.height_in_bounds) }

pub follows-requires : goal.follows-requires
follows-requires c =
    let t = top-at c.requires.pieces_value.1.0 c.requires.pieces_value.1.1.0 c.requires.pieces_value.1.1.1 c.kind-kind.ensures c.first-first.ensures in
    (c.requires.pieces_value.0, (kind-small t, done-small t))

pub returns-then-not-follows : goal.returns-then-not-follows
returns-then-not-follows c =
    let t = top-at c.requires.pieces_value.1.0 c.requires.pieces_value.1.1.0 c.requires.pieces_value.1.1.1 c.kind-kind.ensures c.first-first.ensures in
    turn_last t c.put_piece-next.ensures (sym c.follows.ensures ∙ c.if-not-follows.true)

pub overflow_add-stack : goal.overflow_add-stack
overflow_add-stack c =
    let t = top-at c.requires.pieces_value.1.0 c.requires.pieces_value.1.1.0 c.requires.pieces_value.1.1.1 c.kind-kind.ensures c.first-first.ensures in
    omega (arith, done-small t)

pub offset_bounds-stack-top-2 : goal.offset_bounds-stack-top-2
offset_bounds-stack-top-2 c =
    omega (arith, high c.requires.pieces_value.1.0 c.requires.pieces_value.1.1.0 c.requires.pieces_value.1.1.1)

pub bounds-stack-top-2 : goal.bounds-stack-top-2
bounds-stack-top-2 c =
    omega (arith, high c.requires.pieces_value.1.0 c.requires.pieces_value.1.1.0 c.requires.pieces_value.1.1.1, c.requires.pieces_value.1.1.0.room)

pub offset_bounds-stack-height : goal.offset_bounds-stack-height
offset_bounds-stack-height c =
    omega (arith, high c.requires.pieces_value.1.0 c.requires.pieces_value.1.1.0 c.requires.pieces_value.1.1.1)

pub bounds-stack-height : goal.bounds-stack-height
bounds-stack-height c =
    let t = top-at c.requires.pieces_value.1.0 c.requires.pieces_value.1.1.0 c.requires.pieces_value.1.1.1 c.kind-kind.ensures c.first-first.ensures in
    simp length-set (stack_fits t (sym c.follows.ensures ∙ c.if-not-follows.false))

pub overflow_add-result : goal.overflow_add-result
overflow_add-result c =
    omega (arith, high c.requires.pieces_value.1.0 c.requires.pieces_value.1.1.0 c.requires.pieces_value.1.1.1)

pub returns : goal.returns
returns c =
    let t = top-at c.requires.pieces_value.1.0 c.requires.pieces_value.1.1.0 c.requires.pieces_value.1.1.1 c.kind-kind.ensures c.first-first.ensures in
    turn_more t c.put_piece-next.ensures (sym c.follows.ensures ∙ c.if-not-follows.false) _ c.operand.ensures
