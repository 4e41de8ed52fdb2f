-- From mark to mark: whether the words meet is whether their rests do.
use mathlib.Core.Path.{◌≡◌}
use lib.ListN.{take}
use lib.Seq.{slice}
use Rattle.language.specs.Words.{meet}
use Rattle.enumerations.proofs.meets.Given as goal

abbrev pub invariant-loop-i : goal.invariant-loop-i
invariant-loop-i l = meet (slice l.i l.n l.a) (slice l.i l.n l.b) ≡ meet (take l.n l.a) (take l.n l.b)
