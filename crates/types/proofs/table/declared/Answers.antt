-- The type of a declared name: the definition's table has each value from one kind up to the next, which antt computes.
use Prim.Native.Nat.{zero-le}
use native.Mathlib.Omega.{arith}
use mathlib.Core.Path.{refl}
use Rattle.entries.specs.Kinds as Kind
use Rattle.traversal.specs.Stretches.{stretch}
use Rattle.types.specs.Declaring.{declaring}
use Rattle.types.proofs.table.declared.Goals as goal

pub returns-then-kind-lt-PARAMETER : goal.returns-then-kind-lt-PARAMETER
returns-then-kind-lt-PARAMETER c = stretch declaring zero-le c.if-kind-lt-PARAMETER.true refl

pub returns-then-kind-lt-DEFINITION : goal.returns-then-kind-lt-DEFINITION
returns-then-kind-lt-DEFINITION c = stretch declaring c.if-kind-lt-PARAMETER.false c.if-kind-lt-DEFINITION.true refl

pub returns-then-kind-lt-ENUMERATION : goal.returns-then-kind-lt-ENUMERATION
returns-then-kind-lt-ENUMERATION c = stretch declaring c.if-kind-lt-DEFINITION.false c.if-kind-lt-ENUMERATION.true refl

pub returns-then-kind-lt-IDENTIFIER : goal.returns-then-kind-lt-IDENTIFIER
returns-then-kind-lt-IDENTIFIER c = stretch declaring c.if-kind-lt-ENUMERATION.false c.if-kind-lt-IDENTIFIER.true refl

pub returns-then-kind-lt-WORD : goal.returns-then-kind-lt-WORD
returns-then-kind-lt-WORD c = stretch declaring c.if-kind-lt-IDENTIFIER.false c.if-kind-lt-WORD.true refl

pub returns-then-kind-lt-SIGNAL : goal.returns-then-kind-lt-SIGNAL
returns-then-kind-lt-SIGNAL c = stretch declaring c.if-kind-lt-WORD.false c.if-kind-lt-SIGNAL.true refl

pub returns-then-kind-lt-BUS : goal.returns-then-kind-lt-BUS
returns-then-kind-lt-BUS c = stretch declaring c.if-kind-lt-SIGNAL.false c.if-kind-lt-BUS.true refl

pub returns-then-kind-lt-LINE : goal.returns-then-kind-lt-LINE
returns-then-kind-lt-LINE c = stretch declaring c.if-kind-lt-BUS.false c.if-kind-lt-LINE.true refl

pub returns-else-kind-lt-LINE : goal.returns-else-kind-lt-LINE
returns-else-kind-lt-LINE c = stretch declaring {b = Kind.limit} c.if-kind-lt-LINE.false (omega arith) refl
