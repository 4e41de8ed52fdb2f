use Rattle.set_steps.specs.BoundLaws.{bounds_starts}
use Rattle.machine.specs.StartLaws.{two_open, two_steps}
use Rattle.set_steps.proofs.bounds.bounds.Goals as goal

pub push_first-requires : goal.push_first-requires
push_first-requires c =
    let h = two_open 0 (bounds_starts c.requires.evaluates) c.requires.ready in
    record { openable = h.0; preceded = h.1 }

pub returns : goal.returns
returns c =
    let at-push-first = c.push_first in
    two_steps 0 (bounds_starts c.requires.evaluates) at-push-first.ensures
