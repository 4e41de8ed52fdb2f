use Rattle.set_steps.specs.MeasureLaws.{measurement-starts}
use Rattle.machine.specs.StartLaws.{starts-ready, starts-inside, one-steps}
use Rattle.set_steps.proofs.measures.measurement.Goals as goal

pub overflow_sub-m : goal.overflow_sub-m
overflow_sub-m c =
    starts-inside (measurement-starts c.requires.evaluates) c.requires.ready

pub push-requires : goal.push-requires
push-requires c =
    starts-ready (measurement-starts c.requires.evaluates) c.requires.ready

pub returns : goal.returns
returns c =
    let at_push = c.push in
    one-steps (measurement-starts c.requires.evaluates) at_push.ensures
