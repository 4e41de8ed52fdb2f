-- `field` meets its contract: v is the number in the first i bits.
use mathlib.Core.Path.{◌≡◌}
use Rattle.recordings.specs.Recording.{field_at}
use Rattle.recordings.proofs.field.Given as goal

abbrev pub invariant-loop-i : goal.invariant-loop-i
invariant-loop-i l = l.v ≡ field_at l.bytes l.at l.i
