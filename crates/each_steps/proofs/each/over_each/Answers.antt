use Rattle.each_steps.specs.OverLaws.{over-starts}
use Rattle.machine.specs.StartLaws.{two_open, two_steps}
use Rattle.each_steps.proofs.each.over_each.Goals as goal

pub push_first-requires : goal.push_first-requires
push_first-requires c =
    let h = two_open 1 (over-starts c.requires.expands) c.requires.ready in
    record { openable = h.0; preceded = h.1 }

pub returns : goal.returns
returns c =
    let at-push-first = c.push_first in
    two_steps 1 (over-starts c.requires.expands) at-push-first.ensures
