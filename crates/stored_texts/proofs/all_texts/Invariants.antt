-- The next name starts within the file.
use Rattle.std.proofs.Common.{length, ◌-◌, ◌≤◌}
use Rattle.stored_texts.proofs.all_texts.Given as goal

abbrev pub invariant-loop-at : goal.invariant-loop-at
invariant-loop-at g l = l.at ≤ length l.file

abbrev pub decreases-loop-at : goal.decreases-loop-at
decreases-loop-at g l = length l.file - l.at
