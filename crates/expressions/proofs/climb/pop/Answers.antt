-- `expressions::climb::pop` meets its contract: each class of frames has its function.
use native.Mathlib.Omega.{arith}
use Rattle.expressions.specs.CompleteLaws.{complete_tops, turn_done}
use Rattle.expressions.proofs.climb.pop.Goals as goal

pub returns-then-m-eq0 : goal.returns-then-m-eq0
returns-then-m-eq0 c = λ ts s x h. turn_done h c.if-m-eq0.true

pub top-requires : goal.top-requires
top-requires c =
    complete_tops c.requires.state c.if-m-eq0.false

pub whole-requires : goal.whole-requires
whole-requires c =
    (c.requires, (let z = c.if-m-eq0.false in omega arith), rw (← c.top.ensures) (omega arith))

pub returns-then-class-lt-ROUND : goal.returns-then-class-lt-ROUND
returns-then-class-lt-ROUND c = c.whole.ensures

pub close-requires : goal.close-requires
close-requires c =
    (c.requires, (let z = c.if-m-eq0.false in omega arith), rw (← c.top.ensures) (omega arith), rw (← c.top.ensures) (omega arith))

pub returns-then-class-lt-ALL : goal.returns-then-class-lt-ALL
returns-then-class-lt-ALL c = c.close.ensures

pub all-requires : goal.all-requires
all-requires c =
    (c.requires, (let z = c.if-m-eq0.false in omega arith), rw (← c.top.ensures) (omega arith))

pub returns-then-class-eq-ALL : goal.returns-then-class-eq-ALL
returns-then-class-eq-ALL c = c.all.ensures

pub further-requires : goal.further-requires
further-requires c =
    (c.requires, (let z = c.if-m-eq0.false in omega arith), rw (← c.top.ensures) (omega arith), rw (← c.top.ensures) (omega arith))

pub returns-then-class-lt-ONE : goal.returns-then-class-lt-ONE
returns-then-class-lt-ONE c = c.further.ensures

pub set-requires : goal.set-requires
set-requires c =
    (c.requires, (let z = c.if-m-eq0.false in omega arith), rw (← c.top.ensures) (omega arith), rw (← c.top.ensures) (omega arith))

pub returns-then-class-lt-BOUND : goal.returns-then-class-lt-BOUND
returns-then-class-lt-BOUND c = c.set.ensures

pub names-requires : goal.names-requires
names-requires c =
    (c.requires, (let z = c.if-m-eq0.false in omega arith), rw (← c.top.ensures) (omega arith))

pub returns : goal.returns
returns c = c.names.ensures
