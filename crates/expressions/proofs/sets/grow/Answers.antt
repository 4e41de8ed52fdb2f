-- `expressions::sets::grow` meets its contract: the entry reaches back over the operands.
use borrow.Author.Rules.{rules}
use native.Mathlib.Omega.{arith}
use Rattle.expressions.proofs.sets.grow.Goals as goal

pub start_of-start-requires : goal.start_of-start-requires
start_of-start-requires c =
    let p = c.requires in record { room = p.room; few = omega (arith, p.few); trees = p.trees }

pub overflow_sub-out : goal.overflow_sub-out
overflow_sub-out c =
    rw c.start_of-start.ensures c.requires.begins

pub overflow_add-out : goal.overflow_add-out
overflow_add-out c =
    omega (arith, c.requires.few)

pub emit-requires : goal.emit-requires
emit-requires c =
    let p = c.requires in record { room = p.room; few = omega (arith, p.few); kind_fits = p.kind_fits; index-fits = p.index-fits; size_fits = omega (arith, p.few) }

pub returns : goal.returns
returns c =
    let emit = c.emit in
    rw (emit.ensures.0, emit.ensures.1, c.start_of-start.ensures) (search rules)
