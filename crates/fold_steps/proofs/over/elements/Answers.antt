use native.Mathlib.Omega.{arith}
use mathlib.Core.Path.{refl, ap, ◌∙◌}
use Rattle.machine.specs.declared.Machine.{Machine}
use Rattle.machine.specs.Telling.{is_logic}
use Rattle.machine.specs.Moves.{came}
use Rattle.machine.specs.ContractLaws.{takes_as, takes-next}
use Rattle.machine.specs.OperandLaws.{topped-entry}
use Rattle.fold_steps.specs.Bigs.{big_by, over_nothing}
use Rattle.fold_steps.specs.OverLaws.{over-beginning, over-logic, over_nothing_lem, over-numbers, over-sets}
use Rattle.machine.specs.MisfitLaws.{set-misfits}
use Rattle.fold_steps.proofs.over.elements.Goals as goal

pub returns-then-m-ne-SET : goal.returns-then-m-ne-SET
returns-then-m-ne-SET c =
    let at-if1 = c.if-m-ne-SET in
    set-misfits c.requires.waiting refl at-if1.true

pub overflow_cast-k : goal.overflow_cast-k
overflow_cast-k c =
    let f = (topped-entry c.requires.topped).few in omega arith

pub kind_at-kind-requires : goal.kind_at-kind-requires
kind_at-kind-requires c =
    let f = topped-entry c.requires.topped in (f.few, f.work)

pub returns-then-kind-ge-BIG_FORMULAS : goal.returns-then-kind-ge-BIG_FORMULAS
returns-then-kind-ge-BIG_FORMULAS c =
    let at-if1 = c.if-m-ne-SET in
    let at-kind-at = c.kind_at-kind in
    let at-if2 = c.if-kind-ge-BIG_FORMULAS in
    let at-popped = c.popped in
    let at-came = c.came in
    takes-next (at-came.ensures ∙ ap (λ (n : Machine). came n is_logic 0 0) at-popped.ensures)
    (over-logic c.requires.waiting at-if1.false refl (let l = at-if2.true in let z = at-kind-at.ensures in omega arith))

pub prefix_at-requires : goal.prefix_at-requires
prefix_at-requires c =
    let f = topped-entry c.requires.topped in (f.few, f.work)

pub place_at-requires : goal.place_at-requires
place_at-requires c =
    let f = topped-entry c.requires.topped in (f.few, f.work)

pub returns-then-m-eq0 : goal.returns-then-m-eq0
returns-then-m-eq0 c =
    let at-if1 = c.if-m-ne-SET in
    let at-kind-at = c.kind_at-kind in
    let at-if2 = c.if-kind-ge-BIG_FORMULAS in
    let at-if3 = c.if-m-eq0 in
    let at-popped2 = c.popped-then-m-eq0 in
    let at-prefix-at = c.prefix_at in
    let at-place-at = c.place_at in
    let at-nothing = c.nothing in
    takes_as (at-nothing.ensures ∙ ap (λ (n : Machine). over_nothing n (big_by at-kind-at.result at-prefix-at.result) at-place-at.result) at-popped2.ensures)
    (over_nothing_lem c.requires.waiting at-if1.false refl (let u = at-if2.false in let z = at-kind-at.ensures in omega arith) at-if3.true at-kind-at.ensures at-prefix-at.ensures at-place-at.ensures)

pub begin-requires : goal.begin-requires
begin-requires c =
    let at-if1 = c.if-m-ne-SET in
    let at-if3 = c.if-m-eq0 in
    over-beginning c.requires.waiting at-if1.false c.requires.topped at-if3.false

pub returns-then-kind-lt-BIG_SETS : goal.returns-then-kind-lt-BIG_SETS
returns-then-kind-lt-BIG_SETS c =
    let at-if1 = c.if-m-ne-SET in
    let at-kind-at = c.kind_at-kind in
    let at-if3 = c.if-m-eq0 in
    let at-if4 = c.if-kind-lt-BIG_SETS in
    let at-begin = c.begin in
    over-numbers c.requires.waiting at-if1.false refl at-if3.false (let l = at-if4.true in let z = at-kind-at.ensures in omega arith) at-begin.ensures

pub begin-requires-2 : goal.begin-requires-2
begin-requires-2 c =
    let at-if1 = c.if-m-ne-SET in
    let at-if3 = c.if-m-eq0 in
    over-beginning c.requires.waiting at-if1.false c.requires.topped at-if3.false

pub returns : goal.returns
returns c =
    let at-if1 = c.if-m-ne-SET in
    let at-kind-at = c.kind_at-kind in
    let at-if2 = c.if-kind-ge-BIG_FORMULAS in
    let at-if3 = c.if-m-eq0 in
    let at-if4 = c.if-kind-lt-BIG_SETS in
    let z = at-kind-at.ensures in let l = at-if4.false in let u = at-if2.false in
    over-sets c.requires.waiting at-if1.false refl at-if3.false (omega arith) (omega arith) c.begin-2.ensures
