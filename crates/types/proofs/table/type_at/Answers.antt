-- A name's type: a declared name's from the table, a big operator's is a number.
use Rattle.types.specs.CodeLaws.{declared_type_lem, bound_type}
use Rattle.types.proofs.table.type_at.Goals as goal

pub returns-then-reference-lt-MAX_NAMES : goal.returns-then-reference-lt-MAX_NAMES
returns-then-reference-lt-MAX_NAMES c = declared_type_lem c.args.table.now _ c.if-reference-lt-MAX_NAMES.true

pub returns-else-reference-lt-MAX_NAMES : goal.returns-else-reference-lt-MAX_NAMES
returns-else-reference-lt-MAX_NAMES c = bound_type c.args.table.now _ c.if-reference-lt-MAX_NAMES.false
