-- `write_basic` meets its contract: the reader's answer, then what is written out of the table and the list.
use Prim.Native.Nat.{ℕ}
use mathlib.Core.Path.{sym}
use lib.ListN.{length-replicate}
use lib.Seq.{length-take-le}
use Rattle.node.proofs.ReturnedLaws.{raised}
use Rattle.writer.specs.Stages.{read-refused, read_accepted, hand_writes}
use Rattle.writer.proofs.write_basic.Goals as goal

pub returns-in_err-count : goal.returns-in_err-count
returns-in_err-count c =
    rw (raised c.from_residual.ensures)
    (read-refused c.read_told-told.ensures (length-replicate {A = ℕ} _ 0) (length-replicate {A = ℕ} _ 0) _ c.in_err-count.was)

pub slice_bounds-table-end : goal.slice_bounds-table-end
slice_bounds-table-end c =
    (read_accepted c.read_told-told.ensures (length-replicate {A = ℕ} _ 0) (length-replicate {A = ℕ} _ 0) c.in_ok-count.was).table_room

pub slice_bounds-write_nodes-end : goal.slice_bounds-write_nodes-end
slice_bounds-write_nodes-end c =
    let hand = read_accepted c.read_told-told.ensures (length-replicate {A = ℕ} _ 0) (length-replicate {A = ℕ} _ 0) c.in_ok-count.was in
    sym (length-take-le _ _ hand.table_room)

pub slice_bounds-list-end : goal.slice_bounds-list-end
slice_bounds-list-end c =
    (read_accepted c.read_told-told.ensures (length-replicate {A = ℕ} _ 0) (length-replicate {A = ℕ} _ 0) c.in_ok-count.was).list_room

pub slice_bounds-write_nodes-end-2 : goal.slice_bounds-write_nodes-end-2
slice_bounds-write_nodes-end-2 c =
    let hand = read_accepted c.read_told-told.ensures (length-replicate {A = ℕ} _ 0) (length-replicate {A = ℕ} _ 0) c.in_ok-count.was in
    sym (length-take-le _ _ hand.list_room)

pub write_nodes-requires : goal.write_nodes-requires
write_nodes-requires c =
    let hand = read_accepted c.read_told-told.ensures (length-replicate {A = ℕ} _ 0) (length-replicate {A = ℕ} _ 0) c.in_ok-count.was in
    (hand.formed, hand.few)

pub returns : goal.returns
returns c =
    hand_writes (read_accepted c.read_told-told.ensures (length-replicate {A = ℕ} _ 0) (length-replicate {A = ℕ} _ 0) c.in_ok-count.was) c.write_nodes.ensures
