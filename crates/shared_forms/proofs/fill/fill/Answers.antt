use mathlib.Core.Path.{refl, ◌∙◌}
use native.Mathlib.Omega.{arith}
use Rattle.shared_forms.specs.ComposeLaws.{fill_refused, fill_end}
use Rattle.shared_forms.proofs.fill.fill.Goals as goal

pub loop-x-init : goal.loop-x-init
loop-x-init c = (refl, (refl, c.requires.1))

pub overflow_mul-x-end : goal.overflow_mul-x-end
overflow_mul-x-end c = let f = c.requires.1.marking.formed.few in record { fits = omega arith }

pub note_form-r-requires : goal.note_form-r-requires
note_form-r-requires c =
    (c.requires.0, (c.loop-x-test.true, c.loop-x.invariant.1.1))

pub returns-then-r-gt-MAX_NODES : goal.returns-then-r-gt-MAX_NODES
returns-then-r-gt-MAX_NODES c =
    fill_refused c.loop-x.out c.loop-x.invariant.1.0 c.if-r-gt-MAX_NODES.true c.note_form-r.ensures

pub loop-x-preserved : goal.loop-x-preserved
loop-x-preserved c =
    let inv = c.loop-x.invariant in
    (c.notes-1.given ∙ inv.0, (c.out-1.given ∙ inv.1.0, c.note_form-r.ensures.done c.if-r-gt-MAX_NODES.false))

pub overflow_sub-result : goal.overflow_sub-result
overflow_sub-result c = let s = c.loop-x.invariant.1.1.marking.formed.some in omega arith

pub overflow_mul-result : goal.overflow_mul-result
overflow_mul-result c = let f = c.loop-x.invariant.1.1.marking.formed.few in record { fits = omega arith }

pub offset_bounds-notes-nodes : goal.offset_bounds-notes-nodes
offset_bounds-notes-nodes c = let f = c.loop-x.invariant.1.1.marking.formed.few in record { fits = omega arith }

pub bounds-notes-nodes : goal.bounds-notes-nodes
bounds-notes-nodes c = let m = c.loop-x.invariant.1.1.marking in let l = m.long in let s = m.formed.some in omega arith

pub returns : goal.returns
returns c = fill_end c.loop-x-test.false c.loop-x.invariant.1.1 refl
