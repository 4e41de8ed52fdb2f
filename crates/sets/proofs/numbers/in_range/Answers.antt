-- `numbers::in_range` meets its contract by the limit's two sides.
use Rattle.sets.specs.NumberLaws.{in_range_lem, out_of_range}
use Rattle.sets.proofs.numbers.in_range.Goals as goal

pub returns-then-v : goal.returns-then-v
returns-then-v c = in_range_lem _ _ c.if-v.true

pub returns : goal.returns
returns c = out_of_range _ _ c.if-v.false
