-- The fold so far, or the constant over nothing.
use Rattle.choices.specs.FoldLaws.{finishes_some, finishes_none}
use Rattle.choices.proofs.folds.finish.Goals as goal

pub returns-then-f : goal.returns-then-f
returns-then-f c = finishes_some _ c.if-f.true

pub returns : goal.returns
returns c = finishes_none _ _ _ c.if-f.false c.constant.ensures
