use mathlib.Core.Path.{refl, ap, ◌∙◌}
use Rattle.std.specs.Prelude.{Ok}
use Rattle.machine.specs.declared.Move.TheVariants.{Next}
use native.Mathlib.Omega.{arith}
use Rattle.machine.specs.declared.Machine.{Machine}
use Rattle.machine.specs.Moves.{wrote}
use Rattle.machine.specs.ContractLaws.{takes-to-write-as}
use Rattle.machine.specs.OperandLaws.{topped_to_write-entry}
use Rattle.each_steps.specs.EachLaws.{elements-formless, elements-none, elements-beginning, elements-steps}
use Rattle.machine.specs.MisfitLaws.{set-misfits, misfits-still}
use Rattle.each_steps.proofs.each.elements.Goals as goal

pub returns-then-m-ne-SET : goal.returns-then-m-ne-SET
returns-then-m-ne-SET c =
    let at-if1 = c.if-m-ne-SET in
    misfits-still (set-misfits c.requires.waiting refl at-if1.true)

pub overflow_cast-k : goal.overflow_cast-k
overflow_cast-k c =
    let f = (topped_to_write-entry c.requires.topped_to_write).few in omega arith

pub kind_at-requires : goal.kind_at-requires
kind_at-requires c =
    let f = topped_to_write-entry c.requires.topped_to_write in (f.few, f.work)

pub returns-then-kind_at-lt-BIG_FORMULAS : goal.returns-then-kind_at-lt-BIG_FORMULAS
returns-then-kind_at-lt-BIG_FORMULAS c =
    let at-if1 = c.if-m-ne-SET in
    let at-kind-at = c.kind_at in
    let at-if2 = c.if-kind_at-lt-BIG_FORMULAS in
    elements-formless c.requires.waiting at-if1.false refl at-kind-at.ensures at-if2.true

pub prefix_at-requires : goal.prefix_at-requires
prefix_at-requires c =
    let f = topped_to_write-entry c.requires.topped_to_write in (f.few, f.work)

pub popped-requires : goal.popped-requires
popped-requires c =
    let i = c.requires.topped_to_write.top.top.at.inside in let s = c.requires.topped_to_write.lent.small in omega arith

pub returns-then-m-eq0 : goal.returns-then-m-eq0
returns-then-m-eq0 c =
    let at-if1 = c.if-m-ne-SET in
    let at-kind-at = c.kind_at in
    let at-if2 = c.if-kind_at-lt-BIG_FORMULAS in
    let at-if3 = c.if-m-eq0 in
    let at-prefix-at = c.prefix_at in
    let at_constant = c.constant-n in
    let at-popped = c.popped in
    let at-capped = c.capped in
    let at-wrote = c.wrote in
    takes-to-write-as (ap (λ (y : Machine). Ok (Next y)) (at-wrote.ensures ∙ ap (λ (n : Machine). wrote n at-capped.result) at-popped.ensures))
    (elements-none c.requires.waiting at-if1.false refl at-kind-at.ensures at-if2.false at-if3.true at-prefix-at.ensures refl at_constant.ensures at-capped.ensures)

pub begin-requires : goal.begin-requires
begin-requires c =
    let at-if1 = c.if-m-ne-SET in
    let at-if3 = c.if-m-eq0 in
    elements-beginning c.requires.waiting at-if1.false c.requires.topped_to_write at-if3.false

pub returns : goal.returns
returns c =
    let at-if1 = c.if-m-ne-SET in
    let at-kind-at = c.kind_at in
    let at-if2 = c.if-kind_at-lt-BIG_FORMULAS in
    let at-if3 = c.if-m-eq0 in
    let at-begin = c.begin in
    elements-steps c.requires.waiting at-if1.false refl at-kind-at.ensures at-if2.false at-if3.false at-begin.ensures
