-- `ranges::range` meets its contract: each way out is one side of a test of the definition, and the elements are filled in.
use mathlib.Core.Path.{refl}
use Rattle.sets.specs.RangeLaws.{range-flat, range_none, range-over, range-filled}
use Rattle.sets.proofs.ranges.range.Goals as goal

pub returns-then-y-x : goal.returns-then-y-x
returns-then-y-x c = range-flat _ _ _ _ _ c.if-y-x.true

pub returns-then-z-x : goal.returns-then-z-x
returns-then-z-x c = range_none _ _ _ _ _ c.if-y-x.false c.if-z-x.true

pub returns-then-more : goal.returns-then-more
returns-then-more c = range-over _ _ _ _ _ c.if-y-x.false c.if-z-x.false c.if-more.true

pub returns : goal.returns
returns c =
    range-filled _ _ _ _ _ c.if-y-x.false c.if-z-x.false _ refl c.if-more.false c.fill.ensures
