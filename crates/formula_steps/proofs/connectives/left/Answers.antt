use mathlib.Core.Path.{refl}
use Rattle.formula_steps.specs.ConnectiveLaws.{left-steps}
use Rattle.machine.specs.MisfitLaws.{formula-misfits}
use Rattle.machine.specs.RenewLaws.{topped_renewable}
use Rattle.formula_steps.proofs.connectives.left.Goals as goal

pub returns-then-m-ne-NODES : goal.returns-then-m-ne-NODES
returns-then-m-ne-NODES c =
    let at-if1 = c.if-m-ne-NODES in
    formula-misfits c.requires.waiting refl at-if1.true

pub renew-requires : goal.renew-requires
renew-requires c =
    topped_renewable c.requires.topped

pub returns : goal.returns
returns c =
    let at-if1 = c.if-m-ne-NODES in
    let at-renew = c.renew in
    left-steps c.requires.waiting at-if1.false refl at-renew.ensures
