use mathlib.Core.Path.{refl, ◌∙◌}
use native.Mathlib.Omega.{arith}
use Rattle.shared_forms.specs.StepLaws.{source_row}
use Rattle.shared_forms.specs.ComposeLaws.{composable_place, numbers-start, compose_start, compose_few, compose_some, compose_step, compose-steppable, compose-again, compose-refused, composes_refused, composes_done}
use borrow.Author.Rules.{rules}
use Rattle.shared_forms.proofs.fill.compose.Goals as goal

pub source_at-source-requires : goal.source_at-source-requires
source_at-source-requires c = composable_place c.requires.1

pub count_at-count-requires : goal.count_at-count-requires
count_at-count-requires c = let p = c.requires in source_row c.source_at-source.ensures p.0 (composable_place p.1)

pub loop-j-init : goal.loop-j-init
loop-j-init c = let p = c.requires in (refl, compose_start c.source_at-source.ensures c.count_at-count.ensures p.1 numbers-start)

pub step_at-step-requires : goal.step_at-step-requires
step_at-step-requires c =
    compose_step c.loop-j.invariant.1 c.requires.0 c.loop-j-test.true

pub part-r-requires : goal.part-r-requires
part-r-requires c =
    compose-steppable c.loop-j.invariant.1 c.loop-j-test.true c.step_at-step.ensures

pub shape_of-out-then-r-gt-MAX_NODES : goal.shape_of-out-then-r-gt-MAX_NODES
shape_of-out-then-r-gt-MAX_NODES c = let l = c.loop-j.invariant.0 in let k = c.out-1.given in search rules

pub returns-then-r-gt-MAX_NODES : goal.returns-then-r-gt-MAX_NODES
returns-then-r-gt-MAX_NODES c =
    let inv = c.loop-j.invariant in
    composes_refused c.loop-j.out inv.0 c.if-r-gt-MAX_NODES.true (compose-refused inv.1 c.loop-j-test.true c.step_at-step.ensures c.part-r.ensures c.if-r-gt-MAX_NODES.true)

pub offset_bounds-numbers-j : goal.offset_bounds-numbers-j
offset_bounds-numbers-j c =
    let t = c.loop-j-test.true in
    let f = compose_few c.loop-j.invariant.1 in
    record { fits = omega arith }

pub bounds-numbers-j : goal.bounds-numbers-j
bounds-numbers-j c =
    let t = c.loop-j-test.true in
    let f = compose_few c.loop-j.invariant.1 in
    omega arith

pub loop-j-preserved : goal.loop-j-preserved
loop-j-preserved c =
    let inv = c.loop-j.invariant in
    (c.out-1.given ∙ inv.0, compose-again inv.1 c.loop-j-test.true c.step_at-step.ensures c.part-r.ensures c.if-r-gt-MAX_NODES.false)

pub overflow_sub-last : goal.overflow_sub-last
overflow_sub-last c = let h = compose_some c.loop-j.invariant.1 in search rules

pub offset_bounds-numbers-last : goal.offset_bounds-numbers-last
offset_bounds-numbers-last c = let h = compose_few c.loop-j.invariant.1 in record { fits = omega arith }

pub bounds-numbers-last : goal.bounds-numbers-last
bounds-numbers-last c = let h = compose_few c.loop-j.invariant.1 in let k = compose_some c.loop-j.invariant.1 in omega arith

pub returns : goal.returns
returns c = composes_done c.loop-j.invariant.1 c.loop-j-test.false
