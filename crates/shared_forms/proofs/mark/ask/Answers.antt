use mathlib.Core.Path.{refl, ◌∙◌}
use native.Mathlib.Omega.{arith}
use Rattle.shared_forms.specs.MarkLaws.{marking-pass, asking_start}
use Rattle.shared_forms.specs.StepLaws.{source_row, ask_start, ask_step, ask-notable, ask-again, ask_end}
use Rattle.shared_forms.proofs.mark.ask.Goals as goal

pub offset_bounds-notes-x : goal.offset_bounds-notes-x
offset_bounds-notes-x c = let l = c.requires.1.1.long in record { fits = omega arith }

pub bounds-notes-x : goal.bounds-notes-x
bounds-notes-x c = let l = c.requires.1.1.long in omega arith

pub returns-then-notes-x-eq0 : goal.returns-then-notes-x-eq0
returns-then-notes-x-eq0 c = marking-pass c.requires.1.1 c.if-notes-x-eq0.true

pub source_at-source-requires : goal.source_at-source-requires
source_at-source-requires c = let p = c.requires in record { formed = p.1.1.formed; inside = p.1.0 }

pub count_at-count-requires : goal.count_at-count-requires
count_at-count-requires c = let p = c.requires in source_row c.source_at-source.ensures p.0 (record { formed = p.1.1.formed; inside = p.1.0 })

pub loop-j-init : goal.loop-j-init
loop-j-init c =
    let p = c.requires in
    (refl, ask_start c.source_at-source.ensures c.count_at-count.ensures (asking_start p.1.1 p.1.0 c.if-notes-x-eq0.false))

pub step_at-step-requires : goal.step_at-step-requires
step_at-step-requires c =
    ask_step c.loop-j.invariant.1 c.requires.0 c.loop-j-test.true

pub note-requires : goal.note-requires
note-requires c = ask-notable c.loop-j.invariant.1 c.loop-j-test.true c.step_at-step.ensures

pub loop-j-preserved : goal.loop-j-preserved
loop-j-preserved c =
    let inv = c.loop-j.invariant in
    (c.notes-1.given ∙ inv.0, ask-again inv.1 c.loop-j-test.true c.step_at-step.ensures c.note.ensures)

pub returns : goal.returns
returns c = ask_end c.loop-j.invariant.1 c.loop-j-test.false
