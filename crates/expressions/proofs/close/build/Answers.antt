-- `expressions::close::build` meets its contract: the entry reaches back over the operands.
use borrow.Author.Rules.{rules}
use native.Mathlib.Omega.{arith}
use Rattle.expressions.proofs.close.build.Goals as goal

pub top-f-requires : goal.top-f-requires
top-f-requires c =
    let p = c.requires in record { room = p.room; some = p.some_slot; deep = p.deep }

pub start_of-start-requires : goal.start_of-start-requires
start_of-start-requires c =
    let p = c.requires in record { room = p.room; few = omega (arith, p.few); trees = p.trees }

pub overflow_sub-out : goal.overflow_sub-out
overflow_sub-out c =
    rw c.start_of-start.ensures c.requires.begins

pub overflow_add-out : goal.overflow_add-out
overflow_add-out c =
    omega (arith, c.requires.few)

pub emit-d-requires : goal.emit-d-requires
emit-d-requires c =
    let p = c.requires in
    record { room = p.room; few = omega (arith, p.few); kind_fits = p.kind_fits; index-fits = omega arith; size_fits = omega (arith, p.few) }

pub popped-requires : goal.popped-requires
popped-requires c =
    c.requires.some_slot

pub returns : goal.returns
returns c =
    let emit = c.emit-d in
    rw (c.climbing.ensures, c.popped.ensures, emit.ensures.0, emit.ensures.1, c.start_of-start.ensures, c.top-f.ensures) (search rules)
