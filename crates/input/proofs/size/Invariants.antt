-- Counted so far: up to what an answer can tell.
use Rattle.std.proofs.Common.{◌-◌, ◌≤◌, ◌≡◌, max, length}
use Rattle.basics.specs.Told.{max_told}
use Rattle.input.proofs.ReadingLaws.{SameCount}
use Rattle.input.proofs.size.Given as goal

abbrev pub invariant-loop-total : goal.invariant-loop-total
invariant-loop-total g l =
    (l.first ≤ l.total) × (l.total ≤ max l.first max_told) × (length l.spare ≡ length l.initial.spare)
    × SameCount (g.R.Read.remaining l.initial.reader) (g.R.Read.remaining l.reader) l.first l.total

abbrev pub decreases-loop-total : goal.decreases-loop-total
decreases-loop-total g l = max_told - l.total
