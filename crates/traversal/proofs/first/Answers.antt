-- The first of two places: where both are places, the lower one.
use mathlib.Core.Path.{refl, ap, sym}
use Rattle.std.specs.Prelude.{Some}
use Rattle.traversal.specs.Places.{placed, place_in}
use Rattle.traversal.specs.PlaceLaws.{placed-place}
use Rattle.traversal.proofs.first.Goals as goal

pub returns-in-Some-Some : goal.returns-in-Some-Some
unfolding placed place_in
returns-in-Some-Some c = rw (c.in-Some-Some.is-0, c.in-Some-Some.is-1) (ap Some c.min.ensures)

pub returns-in_default-None : goal.returns-in_default-None
unfolding placed place_in
returns-in_default-None c = rw (c.in_default-None.is-0, c.in_default-None.is-1) refl

pub returns-in-None-default : goal.returns-in-None-default
unfolding place_in
returns-in-None-default c = rw c.in-None-default.is-0 (sym (placed-place c.args.q))
