-- The first place found, with the bad word's.
use mathlib.Core.Bool.{true}
use mathlib.Core.Path.{ap}
use Rattle.traversal.specs.Places.{Place, place_in}
use Rattle.enumerations.proofs.shut.Goals as goal

pub returns : goal.returns
unfolding place_in
returns c =
    ap (λ (f : Place). record { owner = c.args.p.owner; count = c.args.p.count; size = c.args.p.size; closed = true; found = f }) c.first.ensures
