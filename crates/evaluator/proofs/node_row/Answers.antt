-- `node_row` meets its contract: the row is filled from the rows of earlier nodes.
use Prim.Native.Nat.{◌+◌, ◌*◌, ◌≤◌}
use native.Mathlib.Omega.{arith}
use lib.ListN.{length}
use Rattle.node.specs.Kinds.{shape_of}
use Rattle.bits.specs.Bits.{width}
use Rattle.rows.specs.Memory.{rows_limit}
use Rattle.evaluator.specs.Evaluated.{NodeOf}
use Rattle.evaluator.proofs.EvaluatedLaws.{row_room, offset_fits, ready_of, row_done}
use Rattle.evaluator.proofs.node_row.Goals as goal

room_of : (c : goal.After-struct_known-1) → (width c.args.lasso.n * c.args.i + width c.args.lasso.n ≤ length c.args.rows.now) × (width c.args.lasso.n * c.args.i ≤ rows_limit)
room_of c = row_room c.args.nodes.now c.args.recording.now c.args.lasso c.args.i c.args.rows.now c.requires

pub overflow_mul-base : goal.overflow_mul-base
overflow_mul-base c =
    record { fits = omega (arith, (room_of c).1) }

pub overflow_mul-op : goal.overflow_mul-op
overflow_mul-op c =
    let first = c.first-x in
    record { fits = omega (arith, offset_fits c.args.lasso.n first.result c.requires.recorded.few (omega (arith, first.ensures))) }

pub overflow_mul-op-2 : goal.overflow_mul-op-2
overflow_mul-op-2 c =
    record { fits = omega (arith, offset_fits c.args.lasso.n c.second-y.result c.requires.recorded.few (omega (arith, c.second-y.ensures))) }

room_of-2 : (c : goal.After-fill_row-arg-1) → (width c.args.lasso.n * c.args.i + width c.args.lasso.n ≤ length c.args.rows.now) × (width c.args.lasso.n * c.args.i ≤ rows_limit)
room_of-2 c = row_room c.args.nodes.now c.args.recording.now c.args.lasso c.args.i c.args.rows.now c.requires

node_of : (c : goal.After-fill_row-arg-1) → NodeOf c.args.nodes.now c.args.i (shape_of c.kind-kind.result) c.first-x.result c.second-y.result
node_of c =
    rw (c.kind-kind.ensures, c.first-x.ensures, c.second-y.ensures) (c.requires.trees.each c.args.i c.requires.here)

pub fill_row-requires : goal.fill_row-requires
fill_row-requires c =
    let second = c.second-y in
    let first = c.first-x in
    let kind = c.kind-kind in
    ready_of _ _ _ c.args.nodes.now _ kind.result first.result second.result c.requires.recorded (room_of-2 c).0 (room_of-2 c).1 (node_of c)

node_of-2 : (c : goal.After-slice_known-2-1) → NodeOf c.args.nodes.now c.args.i (shape_of c.kind-kind.result) c.first-x.result c.second-y.result
node_of-2 c =
    rw (c.kind-kind.ensures, c.first-x.ensures, c.second-y.ensures) (c.requires.trees.each c.args.i c.requires.here)

pub returns : goal.returns
returns c =
    let fill-row = c.fill_row in
    let second = c.second-y in
    let first = c.first-x in
    let kind = c.kind-kind in
    row_done _ _ _ _ kind.result first.result second.result c.requires.recorded.loop c.requires.right (node_of-2 c) fill-row.ensures
