use native.Mathlib.Omega.{arith}
use Rattle.std.specs.Prelude.{Ok}
use Rattle.machine.specs.declared.Move.TheVariants.{Next}
use mathlib.Core.Path.{refl, ap, ◌∙◌}
use Rattle.atom_steps.specs.AgainstLaws.{against_notes, against-entry, against-readable, against-first, against-misfits, against-width, against-equal, against-unequal}
use Rattle.machine.specs.declared.Machine.{Machine}
use Rattle.machine.specs.Moves.{wrote}
use Rattle.machine.specs.ContractLaws.{takes-to-write-as}
use Rattle.machine.specs.OperandLaws.{topped_to_write-entry}
use Rattle.atom_steps.proofs.comparisons.against.Goals as goal

pub overflow_cast-k : goal.overflow_cast-k
overflow_cast-k c =
    let f = (topped_to_write-entry c.requires.topped_to_write).few in omega arith

pub infix_at-operator-requires : goal.infix_at-operator-requires
infix_at-operator-requires c =
    let f = topped_to_write-entry c.requires.topped_to_write in (f.few, f.work)

pub returns-then-operator-gt-UNEQUAL : goal.returns-then-operator-gt-UNEQUAL
returns-then-operator-gt-UNEQUAL c =
    let at-infix-at = c.infix_at-operator in
    let at-if1 = c.if-operator-gt-UNEQUAL in
    against-misfits c.requires.faces at-infix-at.ensures at-if1.true

pub overflow_mul-width : goal.overflow_mul-width
overflow_mul-width c =
    let n = against_notes c.requires.faces c.requires.topped_to_write in let l = n.bus-name in omega arith

pub overflow_add-width : goal.overflow_add-width
overflow_add-width c =
    let n = against_notes c.requires.faces c.requires.topped_to_write in let l = n.bus-name in omega arith

pub offset_bounds-memory-facing : goal.offset_bounds-memory-facing
offset_bounds-memory-facing c =
    let n = against_notes c.requires.faces c.requires.topped_to_write in let l = n.bus in omega arith

pub bounds-memory-facing : goal.bounds-memory-facing
bounds-memory-facing c =
    let n = against_notes c.requires.faces c.requires.topped_to_write in let l = n.bus in omega arith

pub overflow_mul-first : goal.overflow_mul-first
overflow_mul-first c =
    let n = against_notes c.requires.faces c.requires.topped_to_write in let l = n.bus-name in omega arith

pub overflow_add-first : goal.overflow_add-first
overflow_add-first c =
    let n = against_notes c.requires.faces c.requires.topped_to_write in let l = n.bus-name in omega arith

pub offset_bounds-memory-facing-2 : goal.offset_bounds-memory-facing-2
offset_bounds-memory-facing-2 c =
    let n = against_notes c.requires.faces c.requires.topped_to_write in let l = n.bus in omega arith

pub bounds-memory-facing-2 : goal.bounds-memory-facing-2
bounds-memory-facing-2 c =
    let n = against_notes c.requires.faces c.requires.topped_to_write in let l = n.bus in omega arith

pub overflow_mul-entry : goal.overflow_mul-entry
overflow_mul-entry c =
    let n = against_notes c.requires.faces c.requires.topped_to_write in let l = n.choice-name in omega arith

pub overflow_add-entry : goal.overflow_add-entry
overflow_add-entry c =
    let n = against_notes c.requires.faces c.requires.topped_to_write in let l = n.choice-name in omega arith

pub offset_bounds-memory-facing-3 : goal.offset_bounds-memory-facing-3
offset_bounds-memory-facing-3 c =
    let n = against_notes c.requires.faces c.requires.topped_to_write in let l = n.choice in omega arith

pub bounds-memory-facing-3 : goal.bounds-memory-facing-3
bounds-memory-facing-3 c =
    let n = against_notes c.requires.faces c.requires.topped_to_write in let l = n.choice in omega arith

pub overflow_cast-entry : goal.overflow_cast-entry
overflow_cast-entry c =
    let l = against-entry c.requires.faces c.requires.topped_to_write refl in omega arith

pub words_end-end-requires : goal.words_end-end-requires
words_end-end-requires c =
    (c.requires.topped_to_write.lent.work, against-entry c.requires.faces c.requires.topped_to_write refl)

pub overflow_add-entry-2 : goal.overflow_add-entry-2
overflow_add-entry-2 c =
    let l = against-entry c.requires.faces c.requires.topped_to_write refl in omega arith

pub widths_are-requires : goal.widths_are-requires
widths_are-requires c =
    let at-words-end = c.words_end-end in
    against-readable c.requires.faces c.requires.topped_to_write refl at-words-end.ensures

pub overflow_add-entry-then-widths_are : goal.overflow_add-entry-then-widths_are
overflow_add-entry-then-widths_are c =
    let l = against-entry c.requires.faces c.requires.topped_to_write refl in omega arith

pub one_of-n-requires : goal.one_of-n-requires
one_of-n-requires c =
    let at-words-end = c.words_end-end in
    (against-readable c.requires.faces c.requires.topped_to_write refl at-words-end.ensures, against-first c.requires.faces c.requires.topped_to_write refl)

pub popped-requires : goal.popped-requires
popped-requires c =
    let i = c.requires.topped_to_write.top.top.at.inside in
    let l = c.requires.topped_to_write.lent.small in
    omega arith

pub returns-then-operator-eq-EQUAL : goal.returns-then-operator-eq-EQUAL
returns-then-operator-eq-EQUAL c =
    let at-infix-at = c.infix_at-operator in
    let at-if1 = c.if-operator-gt-UNEQUAL in
    let at-words-end = c.words_end-end in
    let at-widths-are = c.widths_are in
    let at-if2 = c.if-widths_are in
    let at-one-of = c.one_of-n in
    let at-if3 = c.if-operator-eq-EQUAL in
    let at-popped = c.popped in
    let at-capped = c.capped in
    let at-wrote = c.wrote in
    takes-to-write-as (ap (λ (y : Machine). Ok (Next y)) (at-wrote.ensures ∙ ap (λ (n : Machine). wrote n at-capped.result) at-popped.ensures))
    (against-equal c.requires.faces at-infix-at.ensures
    (record { width_is_lem = refl; first-is = refl; entry-is = refl; end_is = at-words-end.ensures }) at-if1.false at-widths-are.ensures at-if2.true at-one-of.ensures at-if3.true at-capped.ensures)

pub popped-requires-then-widths_are : goal.popped-requires-then-widths_are
popped-requires-then-widths_are c =
    let i = c.requires.topped_to_write.top.top.at.inside in
    let l = c.requires.topped_to_write.lent.small in
    omega arith

pub returns-then-widths_are : goal.returns-then-widths_are
returns-then-widths_are c =
    let at-infix-at = c.infix_at-operator in
    let at-if1 = c.if-operator-gt-UNEQUAL in
    let at-words-end = c.words_end-end in
    let at-widths-are = c.widths_are in
    let at-if2 = c.if-widths_are in
    let at-one-of = c.one_of-n in
    let at-if3 = c.if-operator-eq-EQUAL in
    let at_cap = c.cap-r in
    let at-popped2 = c.popped-then-widths_are in
    let at-capped2 = c.capped-then-widths_are in
    let at-wrote2 = c.wrote-then-widths_are in
    takes-to-write-as (ap (λ (y : Machine). Ok (Next y)) (at-wrote2.ensures ∙ ap (λ (n : Machine). wrote n at-capped2.result) at-popped2.ensures))
    (against-unequal c.requires.faces at-infix-at.ensures
    (record { width_is_lem = refl; first-is = refl; entry-is = refl; end_is = at-words-end.ensures }) at-if1.false at-widths-are.ensures at-if2.true at-one-of.ensures at-if3.false at_cap.ensures at-capped2.ensures)

pub returns : goal.returns
returns c =
    let at-infix-at = c.infix_at-operator in
    let at-if1 = c.if-operator-gt-UNEQUAL in
    let at-words-end = c.words_end-end in
    let at-widths-are = c.widths_are in
    let at-if2 = c.if-widths_are in
    against-width c.requires.faces at-infix-at.ensures (record { width_is_lem = refl; first-is = refl; entry-is = refl; end_is = at-words-end.ensures }) at-if1.false at-widths-are.ensures at-if2.false
