-- `judge_text` meets its contract: the reader's refusal, or the verdict on the table and the signal count that it has left.
use Prim.Native.Nat.{ℕ}
use mathlib.Core.Path.{sym}
use mathlib.Core.List.{List}
use lib.ListN.{length-replicate}
use lib.Seq.{length-take-le}
use Rattle.node.proofs.ReturnedLaws.{raised}
use Rattle.judging.specs.Stages.{read-refused, read_accepted, read_judged}
use Rattle.judging.proofs.judge_text.Goals as goal

pub returns-in_err-count : goal.returns-in_err-count
returns-in_err-count c =
    read-refused _ c.read.ensures (length-replicate {A = ℕ} _ 0) (length-replicate {A = ℕ} _ 0) c.in_err-count.was (raised c.from_residual.ensures)

abbrev recording : (c : goal.In_ok-count) → List ℕ
recording c = c.args.recording.now

pub slice_bounds-table-end : goal.slice_bounds-table-end
slice_bounds-table-end c =
    (read_accepted (recording c) c.read.ensures (length-replicate {A = ℕ} _ 0) (length-replicate {A = ℕ} _ 0) c.in_ok-count.was).room

pub slice_bounds-verdict-end : goal.slice_bounds-verdict-end
slice_bounds-verdict-end c =
    let hand = read_accepted c.args.recording.now c.read.ensures (length-replicate {A = ℕ} _ 0) (length-replicate {A = ℕ} _ 0) c.in_ok-count.was in
    sym (length-take-le _ _ hand.room)

pub returns : goal.returns
returns c =
    read_judged (read_accepted _ c.read.ensures (length-replicate {A = ℕ} _ 0) (length-replicate {A = ℕ} _ 0) c.in_ok-count.was) c.verdict.ensures
