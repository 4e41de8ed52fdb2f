-- `ranges::stepping` meets its contract: a range has three operands before it, and the first is next.
use Rattle.set_steps.specs.RangeLaws.{stepping_starts}
use Rattle.machine.specs.StartLaws.{three_open, three-steps}
use Rattle.set_steps.proofs.ranges.stepping.Goals as goal

pub push_first_of_three-requires : goal.push_first_of_three-requires
push_first_of_three-requires c =
    let h = three_open (stepping_starts c.requires.evaluates) c.requires.ready in
    record { openable = h.0; preceded_by_three = h.1 }

pub returns : goal.returns
returns c =
    let at_push = c.push_first_of_three in
    three-steps (stepping_starts c.requires.evaluates) at_push.ensures
