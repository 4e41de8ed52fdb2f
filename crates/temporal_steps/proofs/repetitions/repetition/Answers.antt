use Rattle.temporal_steps.specs.RepetitionLaws.{repetition_starts}
use Rattle.machine.specs.StartLaws.{two_open, two_steps}
use Rattle.temporal_steps.proofs.repetitions.repetition.Goals as goal

pub push_first-requires : goal.push_first-requires
push_first-requires c =
    let h = two_open 0 (repetition_starts c.requires.expands) c.requires.ready in
    record { openable = h.0; preceded = h.1 }

pub returns : goal.returns
returns c =
    let at-push-first = c.push_first in
    two_steps 0 (repetition_starts c.requires.expands) at-push-first.ensures
