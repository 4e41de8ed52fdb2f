-- `row_like` meets its contract: an earlier node of the same word has the same row.
use Prim.Native.Nat.{◌+◌, ◌*◌, ◌≤◌}
use native.Mathlib.Omega.{arith}
use lib.ListN.{length}
use Rattle.rows.specs.Memory.{rows_limit}
use Rattle.bits.specs.Bits.{width}
use Rattle.evaluator.proofs.EvaluatedLaws.{before-row, row_room, offset_fits}
use Rattle.evaluator.proofs.Copies.{copy_done}
use Rattle.evaluator.proofs.row_like.Goals as goal

pub overflow_mul-w : goal.overflow_mul-w
overflow_mul-w c =
    let h = c.if-j-i.true in
    let l = c.requires.here in
    let f = c.requires.trees.few in
    record { fits = omega (arith, offset_fits c.args.lasso.n c.args.j c.requires.recorded.few (omega (arith, h, l, f))) }

room_of : (c : goal.After-copy_row-arg-1) → (width c.args.lasso.n * c.args.i + width c.args.lasso.n ≤ length c.args.rows.now) × (width c.args.lasso.n * c.args.i ≤ rows_limit)
room_of c = row_room c.args.nodes.now c.args.recording.now c.args.lasso c.args.i c.args.rows.now c.requires

pub overflow_mul-w-then-nodes-j : goal.overflow_mul-w-then-nodes-j
overflow_mul-w-then-nodes-j c =
    record { fits = omega (arith, (room_of c).1) }

pub copy_row-requires : goal.copy_row-requires
copy_row-requires c =
    (before-row (width c.args.lasso.n) c.args.j c.args.i c.if-j-i.true, (room_of c).0)

pub returns-then-nodes-j : goal.returns-then-nodes-j
returns-then-nodes-j c =
    copy_done c.args.nodes.now c.args.recording.now c.args.lasso c.args.i c.args.j c.requires c.if-j-i.true c.if-nodes-j.true c.copy_row.ensures
