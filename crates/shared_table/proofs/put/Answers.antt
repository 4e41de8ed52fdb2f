use mathlib.Core.Path.{refl}
use native.Mathlib.Omega.{arith}
use Rattle.shared_table.specs.PutLaws.{head_few, head-below, look_start, look_few, look_inside, look-behind, look-further, look_end, puts_found}
use Rattle.shared_table.proofs.put.Goals as goal

pub offset_bounds-out-link : goal.offset_bounds-out-link
offset_bounds-out-link c = let h = head_few _ c.head-link.ensures in record { fits = omega arith }

pub bounds-out-link : goal.bounds-out-link
bounds-out-link c = head-below _ c.requires c.head-link.ensures

pub loop-at-init : goal.loop-at-init
loop-at-init c =
    look_start c.requires c.ranges.word.fits c.head-link.ensures refl refl

pub overflow_mul-place : goal.overflow_mul-place
overflow_mul-place c = let f = look_few c.loop-at.invariant in record { fits = omega arith }

pub overflow_add-place : goal.overflow_add-place
overflow_add-place c = let f = look_few c.loop-at.invariant in record { fits = omega arith }

pub offset_bounds-out-place : goal.offset_bounds-out-place
offset_bounds-out-place c = let f = look_few c.loop-at.invariant in record { fits = omega arith }

pub bounds-out-place : goal.bounds-out-place
bounds-out-place c = let f = look_inside c.loop-at.invariant in omega arith

pub returns-then-out-place : goal.returns-then-out-place
returns-then-out-place c = puts_found c.loop-at.invariant c.loop-at-test.true c.if-out-place.true

pub overflow_add-link : goal.overflow_add-link
overflow_add-link c = let f = look_few c.loop-at.invariant in record { fits = omega arith }

pub overflow_add-link-in-loop-at : goal.overflow_add-link-in-loop-at
overflow_add-link-in-loop-at c = let f = look_few c.loop-at.invariant in record { fits = omega arith }

pub offset_bounds-out-link-in-loop-at : goal.offset_bounds-out-link-in-loop-at
offset_bounds-out-link-in-loop-at c = let f = look_few c.loop-at.invariant in record { fits = omega arith }

pub bounds-out-link-in-loop-at : goal.bounds-out-link-in-loop-at
bounds-out-link-in-loop-at c = let f = look_inside c.loop-at.invariant in omega arith

pub loop-at-smaller : goal.loop-at-smaller
loop-at-smaller c =
    let inv = c.loop-at.invariant in
    let i = look_inside inv in
    let b = look-behind inv c.loop-at-test.true c.if-out-place.false in
    omega arith

pub loop-at-preserved : goal.loop-at-preserved
loop-at-preserved c =
    look-further c.loop-at.invariant c.loop-at-test.true c.if-out-place.false refl

pub append-requires : goal.append-requires
append-requires c = look_end c.loop-at.invariant c.loop-at-test.false

pub returns : goal.returns
returns c = c.append.ensures
