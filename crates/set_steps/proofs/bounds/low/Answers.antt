use mathlib.Core.Path.{refl}
use Rattle.set_steps.specs.BoundLaws.{low-steps}
use Rattle.machine.specs.MisfitLaws.{number-misfits}
use Rattle.machine.specs.RenewLaws.{topped_renewable}
use Rattle.set_steps.proofs.bounds.low.Goals as goal

pub returns-then-m-ne-NUMBER : goal.returns-then-m-ne-NUMBER
returns-then-m-ne-NUMBER c =
    let at-if1 = c.if-m-ne-NUMBER in
    number-misfits c.requires.waiting refl at-if1.true

pub renew-requires : goal.renew-requires
renew-requires c =
    topped_renewable c.requires.topped

pub returns : goal.returns
returns c =
    let at-if1 = c.if-m-ne-NUMBER in
    let at-renew = c.renew in
    low-steps c.requires.waiting at-if1.false at-renew.ensures
