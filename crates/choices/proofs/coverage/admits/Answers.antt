-- A byte is one of three marks.
use mathlib.Core.Path.{sym, ap}
use Rattle.language.specs.Numbering.{admits}
use Rattle.choices.specs.LiteralLaws.{mark_absent, mark-present, mark-star}
use Rattle.choices.proofs.coverage.admits.Goals as goal

pub returns-then-mark-eq-ABSENT : goal.returns-then-mark-eq-ABSENT
returns-then-mark-eq-ABSENT c = sym (ap (admits c.args.holds) (mark_absent c.args.mark c.if-mark-eq-ABSENT.true))

pub returns-then-mark-eq-PRESENT : goal.returns-then-mark-eq-PRESENT
returns-then-mark-eq-PRESENT c = sym (ap (admits c.args.holds) (mark-present c.args.mark c.if-mark-eq-ABSENT.false c.if-mark-eq-PRESENT.true))

pub returns : goal.returns
returns c = sym (ap (admits c.args.holds) (mark-star c.args.mark c.if-mark-eq-ABSENT.false c.if-mark-eq-PRESENT.false))
