-- The type of the last operand: the definition's table has each value from one kind up to the next, which antt computes.
use Prim.Native.Nat.{zero-le}
use native.Mathlib.Omega.{arith}
use mathlib.Core.Path.{refl}
use Rattle.entries.specs.Kinds as Kind
use Rattle.traversal.specs.Stretches.{stretch}
use Rattle.types.specs.Kinds.{last_takes}
use Rattle.types.proofs.codes.last_takes.Goals as goal

pub returns-then-kind-lt-INDEX : goal.returns-then-kind-lt-INDEX
returns-then-kind-lt-INDEX c = stretch last_takes zero-le c.if-kind-lt-INDEX.true refl

pub returns-then-kind-lt-PAREN : goal.returns-then-kind-lt-PAREN
returns-then-kind-lt-PAREN c = stretch last_takes c.if-kind-lt-INDEX.false c.if-kind-lt-PAREN.true refl

pub returns-then-kind-lt-MEASURE : goal.returns-then-kind-lt-MEASURE
returns-then-kind-lt-MEASURE c = stretch last_takes c.if-kind-lt-PAREN.false c.if-kind-lt-MEASURE.true refl

pub returns-then-kind-lt-WIDTH : goal.returns-then-kind-lt-WIDTH
returns-then-kind-lt-WIDTH c = stretch last_takes c.if-kind-lt-MEASURE.false c.if-kind-lt-WIDTH.true refl

pub returns-then-kind-lt-UNARY : goal.returns-then-kind-lt-UNARY
returns-then-kind-lt-UNARY c = stretch last_takes c.if-kind-lt-WIDTH.false c.if-kind-lt-UNARY.true refl

pub returns-then-kind-lt-ARITHMETIC : goal.returns-then-kind-lt-ARITHMETIC
returns-then-kind-lt-ARITHMETIC c = stretch last_takes c.if-kind-lt-UNARY.false c.if-kind-lt-ARITHMETIC.true refl

pub returns-then-kind-lt-COMBINATION : goal.returns-then-kind-lt-COMBINATION
returns-then-kind-lt-COMBINATION c = stretch last_takes c.if-kind-lt-ARITHMETIC.false c.if-kind-lt-COMBINATION.true refl

pub returns-then-kind-lt-EQUALITY : goal.returns-then-kind-lt-EQUALITY
returns-then-kind-lt-EQUALITY c = stretch last_takes c.if-kind-lt-COMBINATION.false c.if-kind-lt-EQUALITY.true refl

pub returns-then-kind-lt-ORDER : goal.returns-then-kind-lt-ORDER
returns-then-kind-lt-ORDER c = stretch last_takes c.if-kind-lt-EQUALITY.false c.if-kind-lt-ORDER.true refl

pub returns-then-kind-lt-MEMBERSHIP : goal.returns-then-kind-lt-MEMBERSHIP
returns-then-kind-lt-MEMBERSHIP c = stretch last_takes c.if-kind-lt-ORDER.false c.if-kind-lt-MEMBERSHIP.true refl

pub returns-then-kind-lt-BINARY : goal.returns-then-kind-lt-BINARY
returns-then-kind-lt-BINARY c = stretch last_takes c.if-kind-lt-MEMBERSHIP.false c.if-kind-lt-BINARY.true refl

pub returns-then-kind-lt-BIG_NUMBERS : goal.returns-then-kind-lt-BIG_NUMBERS
returns-then-kind-lt-BIG_NUMBERS c = stretch last_takes c.if-kind-lt-BINARY.false c.if-kind-lt-BIG_NUMBERS.true refl

pub returns-then-kind-lt-BIG_SETS : goal.returns-then-kind-lt-BIG_SETS
returns-then-kind-lt-BIG_SETS c = stretch last_takes c.if-kind-lt-BIG_NUMBERS.false c.if-kind-lt-BIG_SETS.true refl

pub returns-then-kind-lt-BIG_FORMULAS : goal.returns-then-kind-lt-BIG_FORMULAS
returns-then-kind-lt-BIG_FORMULAS c = stretch last_takes c.if-kind-lt-BIG_SETS.false c.if-kind-lt-BIG_FORMULAS.true refl

pub returns-then-kind-lt-BINDER : goal.returns-then-kind-lt-BINDER
returns-then-kind-lt-BINDER c = stretch last_takes c.if-kind-lt-BIG_FORMULAS.false c.if-kind-lt-BINDER.true refl

pub returns-then-kind-lt-BETWEEN : goal.returns-then-kind-lt-BETWEEN
returns-then-kind-lt-BETWEEN c = stretch last_takes c.if-kind-lt-BINDER.false c.if-kind-lt-BETWEEN.true refl

pub returns-then-kind-lt-LISTED : goal.returns-then-kind-lt-LISTED
returns-then-kind-lt-LISTED c = stretch last_takes c.if-kind-lt-BETWEEN.false c.if-kind-lt-LISTED.true refl

pub returns-then-kind-lt-ELEMENT : goal.returns-then-kind-lt-ELEMENT
returns-then-kind-lt-ELEMENT c = stretch last_takes c.if-kind-lt-LISTED.false c.if-kind-lt-ELEMENT.true refl

pub returns-then-kind-lt-DEFINITION : goal.returns-then-kind-lt-DEFINITION
returns-then-kind-lt-DEFINITION c = stretch last_takes c.if-kind-lt-ELEMENT.false c.if-kind-lt-DEFINITION.true refl

pub returns-then-kind-lt-ENUMERATION : goal.returns-then-kind-lt-ENUMERATION
returns-then-kind-lt-ENUMERATION c = stretch last_takes c.if-kind-lt-DEFINITION.false c.if-kind-lt-ENUMERATION.true refl

pub returns-then-kind-lt-BUS : goal.returns-then-kind-lt-BUS
returns-then-kind-lt-BUS c = stretch last_takes c.if-kind-lt-ENUMERATION.false c.if-kind-lt-BUS.true refl

pub returns-then-kind-lt-TYPED : goal.returns-then-kind-lt-TYPED
returns-then-kind-lt-TYPED c = stretch last_takes c.if-kind-lt-BUS.false c.if-kind-lt-TYPED.true refl

pub returns-then-kind-lt-LINE : goal.returns-then-kind-lt-LINE
returns-then-kind-lt-LINE c = stretch last_takes c.if-kind-lt-TYPED.false c.if-kind-lt-LINE.true refl

pub returns-then-kind-lt-HEADING : goal.returns-then-kind-lt-HEADING
returns-then-kind-lt-HEADING c = stretch last_takes c.if-kind-lt-LINE.false c.if-kind-lt-HEADING.true refl

pub returns-else-kind-lt-HEADING : goal.returns-else-kind-lt-HEADING
returns-else-kind-lt-HEADING c = stretch last_takes {b = Kind.limit} c.if-kind-lt-HEADING.false (omega arith) refl
