-- A definition's type is put down where its reference points; a reference past the table stores nothing.
use Rattle.types.specs.ProgressLaws.{table-set, table_out, table_same}
use Rattle.types.proofs.table.define.Goals as goal

pub returns-then-reference-lt-MAX_NAMES : goal.returns-then-reference-lt-MAX_NAMES
returns-then-reference-lt-MAX_NAMES c =
    table-set c.args.table.now c.args.kind c.args.word c.args.operand c.if-kind-eq-DEFINITION.true

pub returns-else-reference-lt-MAX_NAMES : goal.returns-else-reference-lt-MAX_NAMES
returns-else-reference-lt-MAX_NAMES c =
    table_out c.args.table.now c.args.kind c.args.word c.args.operand c.requires c.if-reference-lt-MAX_NAMES.false c.if-kind-eq-DEFINITION.true

pub returns-else-kind-eq-DEFINITION : goal.returns-else-kind-eq-DEFINITION
returns-else-kind-eq-DEFINITION c = table_same c.args.table.now c.args.kind c.args.word c.args.operand c.if-kind-eq-DEFINITION.false
