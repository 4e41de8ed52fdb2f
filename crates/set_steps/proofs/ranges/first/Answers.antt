-- `ranges::first` meets its contract: a number has come, which is kept, and the second operand is next.
use mathlib.Core.Path.{refl}
use Rattle.set_steps.specs.RangeLaws.{first-before, first-steps}
use Rattle.machine.specs.MisfitLaws.{number-misfits}
use Rattle.machine.specs.RenewLaws.{topped_renewable}
use Rattle.set_steps.proofs.ranges.first.Goals as goal

pub returns-then-m-ne-NUMBER : goal.returns-then-m-ne-NUMBER
returns-then-m-ne-NUMBER c =
    let at-if1 = c.if-m-ne-NUMBER in
    number-misfits c.requires.waiting refl at-if1.true

pub renew_before-requires : goal.renew_before-requires
renew_before-requires c =
    record { renewable = topped_renewable c.requires.topped; preceded = first-before c.requires.waiting c.requires.topped }

pub returns : goal.returns
returns c =
    let at-if1 = c.if-m-ne-NUMBER in
    let at-renew = c.renew_before in
    first-steps c.requires.waiting at-if1.false at-renew.ensures
