-- `diagnose` meets its contract: the reader's refusal, or the diagnosis of the table that it has left.
use Prim.Native.Nat.{ℕ}
use mathlib.Core.Path.{sym}
use lib.ListN.{length-replicate}
use lib.Seq.{length-take-le}
use Rattle.node.proofs.ReturnedLaws.{raised}
use Rattle.diagnosis.specs.Stages.{read-refused, read_accepted, read_diagnosed}
use Rattle.diagnosis.proofs.diagnose.Goals as goal

pub returns-in_err-count : goal.returns-in_err-count
returns-in_err-count c =
    read-refused c.read_told-told.ensures (length-replicate {A = ℕ} _ 0) (length-replicate {A = ℕ} _ 0) _ _ c.in_err-count.was (raised c.from_residual.ensures)

pub slice_bounds-table-end : goal.slice_bounds-table-end
slice_bounds-table-end c =
    (read_accepted c.read_told-told.ensures (length-replicate {A = ℕ} _ 0) (length-replicate {A = ℕ} _ 0) c.in_ok-count.was).room

pub slice_bounds-diagnose_table-end : goal.slice_bounds-diagnose_table-end
slice_bounds-diagnose_table-end c =
    let hand = read_accepted c.read_told-told.ensures (length-replicate {A = ℕ} _ 0) (length-replicate {A = ℕ} _ 0) c.in_ok-count.was in
    sym (length-take-le _ _ hand.room)

pub returns : goal.returns
returns c =
    let hand = read_accepted c.read_told-told.ensures (length-replicate {A = ℕ} _ 0) (length-replicate {A = ℕ} _ 0) c.in_ok-count.was in
    read_diagnosed hand c.diagnose_table.ensures
