-- `windows::windowing` meets its contract: a window has three operands before it, and the first is next.
use Rattle.temporal_steps.specs.WindowLaws.{windowing-starts}
use Rattle.machine.specs.StartLaws.{three_open, three-steps}
use Rattle.temporal_steps.proofs.windows.windowing.Goals as goal

pub push_first_of_three-requires : goal.push_first_of_three-requires
push_first_of_three-requires c =
    let h = three_open (windowing-starts c.requires.expands) c.requires.ready in
    record { openable = h.0; preceded_by_three = h.1 }

pub returns : goal.returns
returns c =
    let at_push = c.push_first_of_three in
    three-steps (windowing-starts c.requires.expands) at_push.ensures
