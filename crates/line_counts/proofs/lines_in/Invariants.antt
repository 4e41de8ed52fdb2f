-- `lines_in` meets its contract. The loop's invariant: n of the words before are the part's.
use Prim.Native.Nat.{◌≤◌}
use Rattle.line_counts.specs.Counting.{PartCount}
use Rattle.line_counts.proofs.lines_in.Given as goal

abbrev pub invariant-loop-word : goal.invariant-loop-word
invariant-loop-word l = (l.n ≤ l.word-index) × PartCount l.part l.lines l.word-index l.n
