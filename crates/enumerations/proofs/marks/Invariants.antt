-- The marks so far are the text's bytes so far.
use mathlib.Core.Path.{◌≡◌}
use lib.ListN.{length, take}
use Rattle.language.specs.Limits.{max_marks}
use Rattle.enumerations.specs.Pass.{bytes_at}
use Rattle.enumerations.proofs.marks.Given as goal

abbrev pub invariant-loop-i : goal.invariant-loop-i
invariant-loop-i l = (take l.i l.row ≡ bytes_at l.text l.at l.i) × (length l.row ≡ max_marks)
