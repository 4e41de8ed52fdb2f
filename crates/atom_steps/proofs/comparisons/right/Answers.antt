use mathlib.Core.Path.{refl}
use Rattle.atom_steps.specs.ComparisonLaws.{right-unsized, right-uncompared}
use Rattle.machine.specs.MisfitLaws.{value-misfits, misfits-still}
use Rattle.atom_steps.proofs.comparisons.right.Goals as goal

pub returns-then-m-eq-NODES : goal.returns-then-m-eq-NODES
returns-then-m-eq-NODES c =
    let at-if1 = c.if-m-eq-NODES in
    misfits-still (value-misfits c.requires.waiting refl at-if1.true)

pub returns-then-mode-eq-UNSIZED : goal.returns-then-mode-eq-UNSIZED
returns-then-mode-eq-UNSIZED c =
    let at-if1 = c.if-m-eq-NODES in
    let at-if5 = c.if-mode-eq-UNSIZED in
    right-unsized c.requires.waiting at-if1.false at-if5.true refl

pub returns : goal.returns
returns c =
    let at-if1 = c.if-m-eq-NODES in
    let at-if2 = c.if-mode-eq-NUMBER in
    let at-if3 = c.if-mode-eq-BUS in
    let at-if4 = c.if-mode-eq-CHOICE in
    let at-if5 = c.if-mode-eq-UNSIZED in
    right-uncompared c.requires.waiting at-if1.false at-if2.false at-if3.false at-if4.false at-if5.false
