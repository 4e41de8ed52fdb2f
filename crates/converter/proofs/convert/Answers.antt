-- `convert` meets its contract: the reader's answer, then what is written out of the table and the list.
use Prim.Native.Nat.{ℕ}
use mathlib.Core.Path.{sym}
use lib.ListN.{length-replicate}
use lib.Seq.{length-take-le}
use Rattle.node.proofs.ReturnedLaws.{raised}
use Rattle.converter.specs.Stages.{read-refused, read_accepted, form-refused, form-accepted}
use Rattle.converter.proofs.convert.Goals as goal

pub returns-in_err-count : goal.returns-in_err-count
returns-in_err-count c =
    let a = c.args in
    rw (raised c.from_residual.ensures)
    (read-refused a.form a.nodes.now a.signals.now c.read.ensures (length-replicate {A = ℕ} _ 0) (length-replicate {A = ℕ} _ 0) c.in_err-count.was)

pub slice_bounds-table-end : goal.slice_bounds-table-end
slice_bounds-table-end c =
    let a = c.args in
    (read_accepted a.form a.nodes.now a.signals.now c.read.ensures (length-replicate {A = ℕ} _ 0) (length-replicate {A = ℕ} _ 0) c.in_ok-count.was).table_room

pub slice_bounds-write_out-end : goal.slice_bounds-write_out-end
slice_bounds-write_out-end c =
    let a = c.args in
    let g = read_accepted a.form a.nodes.now a.signals.now c.read.ensures (length-replicate {A = ℕ} _ 0) (length-replicate {A = ℕ} _ 0) c.in_ok-count.was in
    sym (length-take-le _ _ g.table_room)

pub slice_bounds-list-end : goal.slice_bounds-list-end
slice_bounds-list-end c =
    let a = c.args in
    (read_accepted a.form a.nodes.now a.signals.now c.read.ensures (length-replicate {A = ℕ} _ 0) (length-replicate {A = ℕ} _ 0) c.in_ok-count.was).list_room

pub slice_bounds-write_out-end-2 : goal.slice_bounds-write_out-end-2
slice_bounds-write_out-end-2 c =
    let a = c.args in
    let g = read_accepted a.form a.nodes.now a.signals.now c.read.ensures (length-replicate {A = ℕ} _ 0) (length-replicate {A = ℕ} _ 0) c.in_ok-count.was in
    sym (length-take-le _ _ g.list_room)

pub returns-in_err-size : goal.returns-in_err-size
returns-in_err-size c =
    let a = c.args in
    let g = read_accepted a.form a.nodes.now a.signals.now c.read.ensures (length-replicate {A = ℕ} _ 0) (length-replicate {A = ℕ} _ 0) c.in_ok-count.was in
    rw (raised c.from_residual-in_err-size.ensures) (form-refused g c.write_out.ensures c.in_err-size.was)

pub returns : goal.returns
returns c =
    let a = c.args in
    let g = read_accepted a.form a.nodes.now a.signals.now c.read.ensures (length-replicate {A = ℕ} _ 0) (length-replicate {A = ℕ} _ 0) c.in_ok-count.was in
    form-accepted g c.write_out.ensures c.in_ok-size.was
