-- A byte is one of three marks.
use Rattle.choices.specs.LiteralLaws.{starred-absent, starred_other}
use Rattle.choices.proofs.starred.Goals as goal

pub returns-then-mark-eq-ABSENT : goal.returns-then-mark-eq-ABSENT
returns-then-mark-eq-ABSENT c = starred-absent c.args.mark c.if-mark-eq-ABSENT.true

pub returns : goal.returns
returns c = starred_other c.args.mark c.if-mark-eq-ABSENT.false
