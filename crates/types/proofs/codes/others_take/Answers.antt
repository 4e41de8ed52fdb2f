-- The type of the operands before the last: the definition's table has each value from one kind up to the next, which antt computes.
use Prim.Native.Nat.{zero-le}
use native.Mathlib.Omega.{arith}
use mathlib.Core.Path.{refl}
use Rattle.entries.specs.Kinds as Kind
use Rattle.traversal.specs.Stretches.{stretch}
use Rattle.types.specs.Kinds.{other_takes}
use Rattle.types.proofs.codes.others_take.Goals as goal

pub returns-then-kind-lt-INDEX : goal.returns-then-kind-lt-INDEX
returns-then-kind-lt-INDEX c = stretch other_takes zero-le c.if-kind-lt-INDEX.true refl

pub returns-then-kind-lt-PAREN : goal.returns-then-kind-lt-PAREN
returns-then-kind-lt-PAREN c = stretch other_takes c.if-kind-lt-INDEX.false c.if-kind-lt-PAREN.true refl

pub returns-then-kind-lt-ARITHMETIC : goal.returns-then-kind-lt-ARITHMETIC
returns-then-kind-lt-ARITHMETIC c = stretch other_takes c.if-kind-lt-PAREN.false c.if-kind-lt-ARITHMETIC.true refl

pub returns-then-kind-lt-COMBINATION : goal.returns-then-kind-lt-COMBINATION
returns-then-kind-lt-COMBINATION c = stretch other_takes c.if-kind-lt-ARITHMETIC.false c.if-kind-lt-COMBINATION.true refl

pub returns-then-kind-lt-EQUALITY : goal.returns-then-kind-lt-EQUALITY
returns-then-kind-lt-EQUALITY c = stretch other_takes c.if-kind-lt-COMBINATION.false c.if-kind-lt-EQUALITY.true refl

pub returns-then-kind-lt-ORDER : goal.returns-then-kind-lt-ORDER
returns-then-kind-lt-ORDER c = stretch other_takes c.if-kind-lt-EQUALITY.false c.if-kind-lt-ORDER.true refl

pub returns-then-kind-lt-BINARY : goal.returns-then-kind-lt-BINARY
returns-then-kind-lt-BINARY c = stretch other_takes c.if-kind-lt-ORDER.false c.if-kind-lt-BINARY.true refl

pub returns-then-kind-lt-NEXTS : goal.returns-then-kind-lt-NEXTS
returns-then-kind-lt-NEXTS c = stretch other_takes c.if-kind-lt-BINARY.false c.if-kind-lt-NEXTS.true refl

pub returns-then-kind-lt-BIG_NUMBERS : goal.returns-then-kind-lt-BIG_NUMBERS
returns-then-kind-lt-BIG_NUMBERS c = stretch other_takes c.if-kind-lt-NEXTS.false c.if-kind-lt-BIG_NUMBERS.true refl

pub returns-then-kind-lt-BETWEEN : goal.returns-then-kind-lt-BETWEEN
returns-then-kind-lt-BETWEEN c = stretch other_takes c.if-kind-lt-BIG_NUMBERS.false c.if-kind-lt-BETWEEN.true refl

pub returns-then-kind-lt-LISTED : goal.returns-then-kind-lt-LISTED
returns-then-kind-lt-LISTED c = stretch other_takes c.if-kind-lt-BETWEEN.false c.if-kind-lt-LISTED.true refl

pub returns-then-kind-lt-ELEMENT : goal.returns-then-kind-lt-ELEMENT
returns-then-kind-lt-ELEMENT c = stretch other_takes c.if-kind-lt-LISTED.false c.if-kind-lt-ELEMENT.true refl

pub returns-then-kind-lt-LINES : goal.returns-then-kind-lt-LINES
returns-then-kind-lt-LINES c = stretch other_takes c.if-kind-lt-ELEMENT.false c.if-kind-lt-LINES.true refl

pub returns-else-kind-lt-LINES : goal.returns-else-kind-lt-LINES
returns-else-kind-lt-LINES c = stretch other_takes {b = Kind.limit} c.if-kind-lt-LINES.false (omega arith) refl
