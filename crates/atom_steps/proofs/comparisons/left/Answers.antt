use mathlib.Core.Path.{refl}
use Rattle.atom_steps.specs.ComparisonLaws.{left-nameable, left-steps}
use Rattle.machine.specs.MisfitLaws.{value-misfits}
use Rattle.machine.specs.RenewLaws.{topped_renewable}
use Rattle.atom_steps.proofs.comparisons.left.Goals as goal

pub returns-then-m-eq-NODES : goal.returns-then-m-eq-NODES
returns-then-m-eq-NODES c =
    let at-if1 = c.if-m-eq-NODES in
    value-misfits c.requires.waiting refl at-if1.true

pub name_of-name-requires : goal.name_of-name-requires
name_of-name-requires c =
    let at-if1 = c.if-m-eq-NODES in
    left-nameable c.requires.waiting at-if1.false c.requires.topped

pub renew-requires : goal.renew-requires
renew-requires c =
    topped_renewable c.requires.topped

pub returns : goal.returns
returns c =
    let at-if1 = c.if-m-eq-NODES in
    let at-name-of = c.name_of-name in
    let at-renew = c.renew in
    left-steps c.requires.waiting at-if1.false at-name-of.ensures at-renew.ensures
