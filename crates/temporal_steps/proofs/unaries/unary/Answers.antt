use Rattle.temporal_steps.specs.UnaryLaws.{unary-starts}
use Rattle.machine.specs.StartLaws.{starts-ready, starts-inside, one-steps}
use Rattle.temporal_steps.proofs.unaries.unary.Goals as goal

pub overflow_sub-m : goal.overflow_sub-m
overflow_sub-m c =
    starts-inside (unary-starts c.requires.expands) c.requires.ready

pub push-requires : goal.push-requires
push-requires c =
    starts-ready (unary-starts c.requires.expands) c.requires.ready

pub returns : goal.returns
returns c =
    let at_push = c.push in
    one-steps (unary-starts c.requires.expands) at_push.ensures
