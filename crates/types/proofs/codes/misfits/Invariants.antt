-- The operands one by one: the first place found so far, and that of the rest, are the first of all.
use mathlib.Core.Path.{◌≡◌}
use lib.Seq.{slice}
use Rattle.language.specs.Places.{first}
use Rattle.traversal.specs.Places.{place_in}
use Rattle.types.specs.Kinds.{misfits}
use Rattle.types.proofs.codes.misfits.Given as goal

abbrev pub invariant-loop-i : goal.invariant-loop-i
invariant-loop-i l = first (place_in l.found) (misfits l.other l.last (slice l.i l.to l.types) (slice l.i l.to l.starts)) ≡ misfits l.other l.last (slice l.from l.to l.types)
    (slice l.from l.to l.starts)
