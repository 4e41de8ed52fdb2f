use Rattle.atom_steps.specs.BitLaws.{index-starts}
use Rattle.machine.specs.StartLaws.{starts-ready, starts-inside, one-steps}
use Rattle.atom_steps.proofs.bits.index.Goals as goal

pub overflow_sub-m : goal.overflow_sub-m
overflow_sub-m c =
    starts-inside (index-starts c.requires.expands) c.requires.ready

pub push-requires : goal.push-requires
push-requires c =
    starts-ready (index-starts c.requires.expands) c.requires.ready

pub returns : goal.returns
returns c =
    let at_push = c.push in
    one-steps (index-starts c.requires.expands) at_push.ensures
