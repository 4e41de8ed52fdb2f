use mathlib.Core.Bool.{not}
use mathlib.Core.Path.{refl, ap, ◌∙◌}
use Rattle.choices.specs.CoverageLaws.{rows-blank, rows_none, covered_none}
use Rattle.choices.proofs.coverage.+covered.Goals as goal

pub returns-then-width-i : goal.returns-then-width-i
returns-then-width-i t c = ap not c.is_empty.ensures ∙ covered_none c.args.rows.now c.args.i c.args.width c.if-width-i.true

pub after-n-requires : goal.after-n-requires
after-n-requires t c = (c.requires.0, (rows-blank _ refl, (c.if-width-i.false, c.requires.1.1)))

pub after-m-requires : goal.after-m-requires
after-m-requires t c =
    (c.requires.0, (rows_none _ _ c.after-n.ensures.filled, (c.if-width-i.false, c.requires.1.1)))
