-- `next` meets its contract: what was folded and what has come are calculated together, or a refusal is handed up.
use mathlib.Core.Path.{refl}
use native.Mathlib.Omega.{arith}
use Rattle.node.proofs.ReturnedLaws.{raised}
use Rattle.fold_steps.specs.NumberLaws.{next-foldable, next-refuses, next-steps}
use Rattle.machine.specs.OperandLaws.{topped-entry}
use Rattle.machine.specs.MisfitLaws.{number-misfits}
use Rattle.fold_steps.proofs.numbers.next.Goals as goal

pub returns-then-m-ne-NUMBER : goal.returns-then-m-ne-NUMBER
returns-then-m-ne-NUMBER c =
    number-misfits c.requires.waiting refl c.if-m-ne-NUMBER.true

pub overflow_cast-k : goal.overflow_cast-k
overflow_cast-k c =
    let f = (topped-entry c.requires.topped).few in omega arith

pub place_at-requires : goal.place_at-requires
place_at-requires c =
    let f = topped-entry c.requires.topped in (f.few, f.work)

pub prefix_at-requires : goal.prefix_at-requires
prefix_at-requires c =
    let f = topped-entry c.requires.topped in (f.few, f.work)

pub returns-in_err-n : goal.returns-in_err-n
returns-in_err-n c =
    rw (raised c.from_residual.ensures)
    (next-refuses c.requires.waiting c.if-m-ne-NUMBER.false {i = c.prefix_at.result}
    (record { entry = refl; operator = c.prefix_at.ensures; place = c.place_at.ensures; folded = refl; answer = rw c.in_err-n.was at c.calculate.ensures }))

pub onward-requires : goal.onward-requires
onward-requires c =
    next-foldable c.requires.waiting c.requires.topped

pub returns : goal.returns
returns c =
    next-steps c.requires.waiting c.if-m-ne-NUMBER.false {i = c.prefix_at.result}
    (record { entry = refl; operator = c.prefix_at.ensures; place = c.place_at.ensures; folded = refl; answer = rw c.in_ok-n.was at c.calculate.ensures })
    c.onward.result c.onward.ensures
