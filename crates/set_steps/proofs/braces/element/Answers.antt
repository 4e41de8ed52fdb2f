use lib.ListN.{get_or, length-set}
use native.Mathlib.Omega.{arith}
use Prim.Native.Nat.{ℕ, ◌+◌, ◌≤◌}
use mathlib.Core.Path.{refl, sym, ◌∙◌, subst}
use Rattle.set_steps.specs.ElementLaws.{element-fits, element_few, element_elementary, element-numbers, element-ends, element_goes}
use Rattle.machine.specs.ContractLaws.{takes_as}
use Rattle.machine.specs.OperandLaws.{topped-entry}
use Rattle.machine.specs.Memory.{frame_words}
use Rattle.machine.specs.MisfitLaws.{number-misfits}
use Rattle.set_steps.proofs.braces.element.Goals as goal

pub returns-then-m-ne-NUMBER : goal.returns-then-m-ne-NUMBER
returns-then-m-ne-NUMBER c =
    let at-if1 = c.if-m-ne-NUMBER in
    number-misfits c.requires.waiting refl at-if1.true

pub overflow_cast-base : goal.overflow_cast-base
overflow_cast-base c =
    let f = element-fits c.requires.waiting c.requires.topped in
    let r = f.room in
    let i = f.inside in
    let s = c.requires.topped.lent.small in
    omega arith

pub overflow_cast-memory : goal.overflow_cast-memory
overflow_cast-memory c =
    let f = element-fits c.requires.waiting c.requires.topped in
    let r = f.room in
    let i = f.inside in
    let s = c.requires.topped.lent.small in
    omega arith

pub overflow_add-memory : goal.overflow_add-memory
overflow_add-memory c =
    let f = element-fits c.requires.waiting c.requires.topped in
    let r = f.room in
    let i = f.inside in
    let s = c.requires.topped.lent.small in
    omega arith

pub offset_bounds-memory-base : goal.offset_bounds-memory-base
offset_bounds-memory-base c =
    let f = element-fits c.requires.waiting c.requires.topped in
    let r = f.room in
    let i = f.inside in
    let s = c.requires.topped.lent.small in
    omega arith

pub bounds-memory-base : goal.bounds-memory-base
bounds-memory-base c =
    let f = element-fits c.requires.waiting c.requires.topped in
    let r = f.room in
    let i = f.inside in
    let s = c.requires.topped.lent.small in
    omega arith

pub overflow_cast-j : goal.overflow_cast-j
overflow_cast-j c =
    let f = (topped-entry c.requires.topped).few in omega arith

pub overflow_sub-j : goal.overflow_sub-j
overflow_sub-j c =
    let f = (topped-entry c.requires.topped).some in omega arith

pub kind_at-requires : goal.kind_at-requires
kind_at-requires c =
    let f = topped-entry c.requires.topped in ((let l = f.few in omega arith), f.work)

pub overflow_cast-count : goal.overflow_cast-count
overflow_cast-count c =
    let f = element-fits c.requires.waiting c.requires.topped in
    let r = f.room in
    let i = f.inside in
    let s = c.requires.topped.lent.small in
    omega arith

pub overflow_add-count-then-kind_at-ne-ELEMENT : goal.overflow_add-count-then-kind_at-ne-ELEMENT
overflow_add-count-then-kind_at-ne-ELEMENT c =
    let f = element-fits c.requires.waiting c.requires.topped in
    let r = f.room in
    let i = f.inside in
    let s = c.requires.topped.lent.small in
    omega arith

pub overflow_cast-k : goal.overflow_cast-k
overflow_cast-k c =
    let f = (element-fits c.requires.waiting c.requires.topped).place in omega arith

pub place_at-requires : goal.place_at-requires
place_at-requires c =
    ((element-fits c.requires.waiting c.requires.topped).place, (topped-entry c.requires.topped).work)

pub sorted-r-requires : goal.sorted-r-requires
sorted-r-requires c =
    let at-if1 = c.if-m-ne-NUMBER in
    element-numbers c.requires.waiting at-if1.false refl refl refl refl c.requires.topped

pub shape_of-memory-then-kind_at-ne-ELEMENT : goal.shape_of-memory-then-kind_at-ne-ELEMENT
shape_of-memory-then-kind_at-ne-ELEMENT c =
    let at-sorted = c.sorted-r in
    let mem = c.args.memory.now in
    let at = c.args.m.frames in
    let long = length-set mem (get_or mem (at + 2) 0 + get_or mem (at + 4) 0) c.args.m.value in
    at-sorted.ensures.kept.len ∙ long

pub returns-then-kind_at-ne-ELEMENT : goal.returns-then-kind_at-ne-ELEMENT
returns-then-kind_at-ne-ELEMENT c =
    let at-if1 = c.if-m-ne-NUMBER in
    let at-kind-at = c.kind_at in
    let at-if2 = c.if-kind_at-ne-ELEMENT in
    let at-place-at = c.place_at in
    let at-sorted = c.sorted-r in
    let at-made = c.made in
    takes_as at-made.ensures
    (element-ends c.requires.waiting at-if1.false refl refl refl refl at-sorted.result (λ q. at-if2.true (at-kind-at.ensures ∙ q)) at-place-at.ensures at-sorted.ensures)

pub overflow_cast-j-2 : goal.overflow_cast-j-2
overflow_cast-j-2 c =
    let f = (topped-entry c.requires.topped).few in omega arith

pub overflow_sub-j-2 : goal.overflow_sub-j-2
overflow_sub-j-2 c =
    let f = (topped-entry c.requires.topped).some in omega arith

pub expression-i-requires : goal.expression-i-requires
expression-i-requires c =
    let at-kind-at = c.kind_at in
    let at-if2 = c.if-kind_at-ne-ELEMENT in
    element_elementary c.requires.waiting c.requires.topped refl (sym at-kind-at.ensures ∙ at-if2.false)

pub overflow_sub-j-3 : goal.overflow_sub-j-3
overflow_sub-j-3 c =
    let f = (topped-entry c.requires.topped).some in omega arith

pub frame-requires : goal.frame-requires
frame-requires c =
    let mem = c.args.memory.now in
    let at = c.args.m.frames in
    let long = length-set mem (get_or mem (at + 2) 0 + get_or mem (at + 4) 0) c.args.m.value in
    let f = element-fits c.requires.waiting c.requires.topped in
    let r = f.room in
    let i = f.inside in
    let s = c.requires.topped.lent.small in
    record {
      frame_words_in_bounds = subst (λ (y : ℕ). c.args.m.frames + frame_words ≤ y) (sym long) f.inside;
      base_bound = (omega arith, (omega arith, omega arith));
    }

pub overflow_add-count-2 : goal.overflow_add-count-2
overflow_add-count-2 c =
    let f = element-fits c.requires.waiting c.requires.topped in
    let r = f.room in
    let i = f.inside in
    let s = c.requires.topped.lent.small in
    omega arith

pub overflow_cast-result : goal.overflow_cast-result
overflow_cast-result c =
    let at-expression = c.expression-i in
    let z = element_few c.requires.topped refl at-expression.ensures in omega arith

pub overflow_add-result : goal.overflow_add-result
overflow_add-result c =
    let f = element-fits c.requires.waiting c.requires.topped in
    let r = f.room in
    let i = f.inside in
    let s = c.requires.topped.lent.small in
    omega arith

pub overflow_add-result-2 : goal.overflow_add-result-2
overflow_add-result-2 c =
    let f = element-fits c.requires.waiting c.requires.topped in
    let r = f.room in
    let i = f.inside in
    let s = c.requires.topped.lent.small in
    omega arith

pub shape_of-memory : goal.shape_of-memory
shape_of-memory c =
    let at-frame = c.frame in
    let mem = c.args.memory.now in
    let at = c.args.m.frames in
    let long = length-set mem (get_or mem (at + 2) 0 + get_or mem (at + 4) 0) c.args.m.value in
    at-frame.ensures.len ∙ long

pub returns : goal.returns
returns c =
    let at-if1 = c.if-m-ne-NUMBER in
    let at-kind-at = c.kind_at in
    let at-if2 = c.if-kind_at-ne-ELEMENT in
    let at-expression = c.expression-i in
    let at-frame = c.frame in
    element_goes c.requires.waiting at-if1.false refl refl refl refl (sym at-kind-at.ensures ∙ at-if2.false) at-expression.ensures at-frame.ensures
