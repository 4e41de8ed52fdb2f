-- A declared name's type is put down where its reference points; a reference past the table stores nothing.
use mathlib.Core.Path.{sym, ◌∙◌}
use Rattle.types.specs.DeclaringLaws.{declares_none, declares-set, declares_out}
use Rattle.types.proofs.table.declare.Goals as goal

pub returns-then-own-eq-UNDECLARED : goal.returns-then-own-eq-UNDECLARED
returns-then-own-eq-UNDECLARED c =
    declares_none c.args.c c.args.table.now (sym c.declared-own.ensures ∙ c.if-own-eq-UNDECLARED.true)

pub returns-then-reference-lt-MAX_NAMES : goal.returns-then-reference-lt-MAX_NAMES
returns-then-reference-lt-MAX_NAMES c =
    let type = c.declared-own in
    declares-set c.args.c c.args.table.now type.result (λ e. c.if-own-eq-UNDECLARED.false (type.ensures ∙ e)) type.ensures

pub returns-else-reference-lt-MAX_NAMES : goal.returns-else-reference-lt-MAX_NAMES
returns-else-reference-lt-MAX_NAMES c =
    let type = c.declared-own in
    declares_out c.args.c c.args.table.now (λ e. c.if-own-eq-UNDECLARED.false (type.ensures ∙ e)) c.requires.1 c.if-reference-lt-MAX_NAMES.false
