-- The number of operands by kind: the definition's table has each value from one kind up to the next, which antt computes.
use native.Mathlib.Omega.{arith}
use mathlib.Core.Path.{refl}
use Rattle.entries.specs.Kinds as Kind
use Rattle.traversal.specs.Arity.{arities}
use Rattle.traversal.specs.Stretches.{stretch}
use Rattle.traversal.proofs.arity.Goals as goal

pub returns-then-kind-lt-INDEX : goal.returns-then-kind-lt-INDEX
returns-then-kind-lt-INDEX c = stretch arities {a = 0} (omega arith) c.if-kind-lt-INDEX.true refl

pub returns-then-kind-lt-ARITHMETIC : goal.returns-then-kind-lt-ARITHMETIC
returns-then-kind-lt-ARITHMETIC c = stretch arities c.if-kind-lt-INDEX.false c.if-kind-lt-ARITHMETIC.true refl

pub returns-then-kind-lt-WINDOW : goal.returns-then-kind-lt-WINDOW
returns-then-kind-lt-WINDOW c = stretch arities c.if-kind-lt-ARITHMETIC.false c.if-kind-lt-WINDOW.true refl

pub returns-then-kind-lt-BIG_NUMBERS : goal.returns-then-kind-lt-BIG_NUMBERS
returns-then-kind-lt-BIG_NUMBERS c = stretch arities c.if-kind-lt-WINDOW.false c.if-kind-lt-BIG_NUMBERS.true refl

pub returns-then-kind-lt-BINDER : goal.returns-then-kind-lt-BINDER
returns-then-kind-lt-BINDER c = stretch arities c.if-kind-lt-BIG_NUMBERS.false c.if-kind-lt-BINDER.true refl

pub returns-then-kind-lt-BETWEEN : goal.returns-then-kind-lt-BETWEEN
returns-then-kind-lt-BETWEEN c = stretch arities c.if-kind-lt-BINDER.false c.if-kind-lt-BETWEEN.true refl

pub returns-then-kind-lt-LISTED : goal.returns-then-kind-lt-LISTED
returns-then-kind-lt-LISTED c = stretch arities c.if-kind-lt-BETWEEN.false c.if-kind-lt-LISTED.true refl

pub returns-then-kind-lt-RANGE : goal.returns-then-kind-lt-RANGE
returns-then-kind-lt-RANGE c = stretch arities c.if-kind-lt-LISTED.false c.if-kind-lt-RANGE.true refl

pub returns-then-kind-lt-LINES : goal.returns-then-kind-lt-LINES
returns-then-kind-lt-LINES c = stretch arities c.if-kind-lt-RANGE.false c.if-kind-lt-LINES.true refl

pub returns-then-kind-lt-ENUMERATION : goal.returns-then-kind-lt-ENUMERATION
returns-then-kind-lt-ENUMERATION c = stretch arities c.if-kind-lt-LINES.false c.if-kind-lt-ENUMERATION.true refl

pub returns-then-kind-lt-BUS : goal.returns-then-kind-lt-BUS
returns-then-kind-lt-BUS c = stretch arities c.if-kind-lt-ENUMERATION.false c.if-kind-lt-BUS.true refl

pub returns-then-kind-lt-HEADING : goal.returns-then-kind-lt-HEADING
returns-then-kind-lt-HEADING c = stretch arities c.if-kind-lt-BUS.false c.if-kind-lt-HEADING.true refl

pub returns-else-kind-lt-HEADING : goal.returns-else-kind-lt-HEADING
returns-else-kind-lt-HEADING c = stretch arities {b = Kind.limit} c.if-kind-lt-HEADING.false (omega arith) refl
