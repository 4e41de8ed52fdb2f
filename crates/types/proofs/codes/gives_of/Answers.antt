-- What an entry gives: the definition's table has each value from one kind up to the next, which antt computes.
use Prim.Native.Nat.{zero-le}
use native.Mathlib.Omega.{arith}
use mathlib.Core.Path.{refl}
use Rattle.entries.specs.Kinds as Kind
use Rattle.traversal.specs.Stretches.{stretch}
use Rattle.types.specs.Codes.{a_number, a_set, a_formula, gives_name, gives_operand, gives_nothing}
use Rattle.types.specs.Kinds.{giving}
use Rattle.types.specs.CodeLaws.{gives_by}
use Rattle.types.proofs.codes.gives_of.Goals as goal

pub returns-then-kind-lt-NUMERAL : goal.returns-then-kind-lt-NUMERAL
returns-then-kind-lt-NUMERAL c = gives_by _ _ _ gives_name (stretch giving zero-le c.if-kind-lt-NUMERAL.true refl)

pub returns-then-kind-lt-TRUTH : goal.returns-then-kind-lt-TRUTH
returns-then-kind-lt-TRUTH c = gives_by _ _ _ a_number (stretch giving c.if-kind-lt-NUMERAL.false c.if-kind-lt-TRUTH.true refl)

pub returns-then-kind-lt-PAREN : goal.returns-then-kind-lt-PAREN
returns-then-kind-lt-PAREN c = gives_by _ _ _ a_formula (stretch giving c.if-kind-lt-TRUTH.false c.if-kind-lt-PAREN.true refl)

pub returns-then-kind-lt-MEASURE : goal.returns-then-kind-lt-MEASURE
returns-then-kind-lt-MEASURE c = gives_by _ _ _ gives_operand (stretch giving c.if-kind-lt-PAREN.false c.if-kind-lt-MEASURE.true refl)

pub returns-then-kind-lt-UNARY : goal.returns-then-kind-lt-UNARY
returns-then-kind-lt-UNARY c = gives_by _ _ _ a_number (stretch giving c.if-kind-lt-MEASURE.false c.if-kind-lt-UNARY.true refl)

pub returns-then-kind-lt-ARITHMETIC : goal.returns-then-kind-lt-ARITHMETIC
returns-then-kind-lt-ARITHMETIC c = gives_by _ _ _ a_formula (stretch giving c.if-kind-lt-UNARY.false c.if-kind-lt-ARITHMETIC.true refl)

pub returns-then-kind-lt-COMBINATION : goal.returns-then-kind-lt-COMBINATION
returns-then-kind-lt-COMBINATION c = gives_by _ _ _ a_number (stretch giving c.if-kind-lt-ARITHMETIC.false c.if-kind-lt-COMBINATION.true refl)

pub returns-then-kind-lt-EQUALITY : goal.returns-then-kind-lt-EQUALITY
returns-then-kind-lt-EQUALITY c = gives_by _ _ _ a_set (stretch giving c.if-kind-lt-COMBINATION.false c.if-kind-lt-EQUALITY.true refl)

pub returns-then-kind-lt-BIG_NUMBERS : goal.returns-then-kind-lt-BIG_NUMBERS
returns-then-kind-lt-BIG_NUMBERS c = gives_by _ _ _ a_formula (stretch giving c.if-kind-lt-EQUALITY.false c.if-kind-lt-BIG_NUMBERS.true refl)

pub returns-then-kind-lt-BIG_SETS : goal.returns-then-kind-lt-BIG_SETS
returns-then-kind-lt-BIG_SETS c = gives_by _ _ _ a_number (stretch giving c.if-kind-lt-BIG_NUMBERS.false c.if-kind-lt-BIG_SETS.true refl)

pub returns-then-kind-lt-BIG_FORMULAS : goal.returns-then-kind-lt-BIG_FORMULAS
returns-then-kind-lt-BIG_FORMULAS c = gives_by _ _ _ a_set (stretch giving c.if-kind-lt-BIG_SETS.false c.if-kind-lt-BIG_FORMULAS.true refl)

pub returns-then-kind-lt-BINDER : goal.returns-then-kind-lt-BINDER
returns-then-kind-lt-BINDER c = gives_by _ _ _ a_formula (stretch giving c.if-kind-lt-BIG_FORMULAS.false c.if-kind-lt-BINDER.true refl)

pub returns-then-kind-lt-LINES : goal.returns-then-kind-lt-LINES
returns-then-kind-lt-LINES c = gives_by _ _ _ a_set (stretch giving c.if-kind-lt-BINDER.false c.if-kind-lt-LINES.true refl)

pub returns-else-kind-lt-LINES : goal.returns-else-kind-lt-LINES
returns-else-kind-lt-LINES c = gives_by _ _ _ gives_nothing (stretch giving {b = Kind.limit} c.if-kind-lt-LINES.false (omega arith) refl)
