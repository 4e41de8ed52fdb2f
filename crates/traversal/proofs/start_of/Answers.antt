-- An entry's start: the definition's table has each value from one kind up to the next, which antt computes.
use native.Mathlib.Omega.{arith}
use mathlib.Core.Path.{refl}
use Rattle.entries.specs.Kinds as Kind
use Rattle.traversal.specs.Starts.{starting}
use Rattle.traversal.specs.StartLaws.{start_by}
use Rattle.traversal.specs.Stretches.{stretch}
use Rattle.traversal.proofs.start_of.Goals as goal

pub returns-then-kind-lt-ARITHMETIC : goal.returns-then-kind-lt-ARITHMETIC
returns-then-kind-lt-ARITHMETIC c = start_by _ _ _ 0 (stretch starting {a = 0} (omega arith) c.if-kind-lt-ARITHMETIC.true refl)

pub returns-then-kind-lt-NEXTS : goal.returns-then-kind-lt-NEXTS
returns-then-kind-lt-NEXTS c = start_by _ _ _ 1 (stretch starting c.if-kind-lt-ARITHMETIC.false c.if-kind-lt-NEXTS.true refl)

pub returns-then-kind-lt-BINDER : goal.returns-then-kind-lt-BINDER
returns-then-kind-lt-BINDER c = start_by _ _ _ 0 (stretch starting c.if-kind-lt-NEXTS.false c.if-kind-lt-BINDER.true refl)

pub returns-then-kind-lt-BETWEEN : goal.returns-then-kind-lt-BETWEEN
returns-then-kind-lt-BETWEEN c = start_by _ _ _ 2 (stretch starting c.if-kind-lt-BINDER.false c.if-kind-lt-BETWEEN.true refl)

pub returns-then-kind-lt-LISTED : goal.returns-then-kind-lt-LISTED
returns-then-kind-lt-LISTED c = start_by _ _ _ 1 (stretch starting c.if-kind-lt-BETWEEN.false c.if-kind-lt-LISTED.true refl)

pub returns-then-kind-lt-ELEMENT : goal.returns-then-kind-lt-ELEMENT
returns-then-kind-lt-ELEMENT c = start_by _ _ _ 0 (stretch starting c.if-kind-lt-LISTED.false c.if-kind-lt-ELEMENT.true refl)

pub returns-then-kind-lt-RANGE : goal.returns-then-kind-lt-RANGE
returns-then-kind-lt-RANGE c = start_by _ _ _ 1 (stretch starting c.if-kind-lt-ELEMENT.false c.if-kind-lt-RANGE.true refl)

pub returns-else-kind-lt-RANGE : goal.returns-else-kind-lt-RANGE
returns-else-kind-lt-RANGE c = start_by _ _ _ 0 (stretch starting {b = Kind.limit} c.if-kind-lt-RANGE.false (omega arith) refl)
