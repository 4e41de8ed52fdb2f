use mathlib.Core.Path.{refl}
use native.Mathlib.Omega.{arith}
use Rattle.set_steps.specs.WidthLaws.{sized_unsized, sized-misfits, sized_inside, sized-steps}
use Rattle.set_steps.proofs.widths.sized.Goals as goal

pub returns-then-m-eq-UNSIZED : goal.returns-then-m-eq-UNSIZED
returns-then-m-eq-UNSIZED c =
    let at-if1 = c.if-m-eq-UNSIZED in
    sized_unsized c.requires.waiting at-if1.true

pub returns-then-m-ne-BUS : goal.returns-then-m-ne-BUS
returns-then-m-ne-BUS c =
    let at-if1 = c.if-m-eq-UNSIZED in
    let at-if2 = c.if-m-ne-BUS in
    sized-misfits c.requires.waiting at-if2.true at-if1.false

pub overflow_mul-n : goal.overflow_mul-n
overflow_mul-n c =
    let at-if2 = c.if-m-ne-BUS in
    let i = (sized_inside c.requires.waiting at-if2.false c.requires.topped).0 in omega arith

pub overflow_add-n : goal.overflow_add-n
overflow_add-n c =
    let at-if2 = c.if-m-ne-BUS in
    let i = (sized_inside c.requires.waiting at-if2.false c.requires.topped).0 in omega arith

pub offset_bounds-memory-m : goal.offset_bounds-memory-m
offset_bounds-memory-m c =
    let at-if2 = c.if-m-ne-BUS in
    let i = (sized_inside c.requires.waiting at-if2.false c.requires.topped).0 in omega arith

pub bounds-memory-m : goal.bounds-memory-m
bounds-memory-m c =
    let at-if2 = c.if-m-ne-BUS in
    let i = (sized_inside c.requires.waiting at-if2.false c.requires.topped).1 in omega arith

pub popped-requires : goal.popped-requires
popped-requires c =
    let i = c.requires.topped.top.top.at.inside in let s = c.requires.topped.lent.small in omega arith

pub returns : goal.returns
returns c =
    let at-if2 = c.if-m-ne-BUS in
    let at-popped = c.popped in
    let at-came = c.came in
    sized-steps c.requires.waiting at-if2.false at-popped.ensures at-came.ensures refl
