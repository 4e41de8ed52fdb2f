-- `ranges::between` meets its contract: the bounds are those of the definition, and the elements are filled in.
use mathlib.Core.Path.{refl}
use Rattle.sets.specs.RangeLaws.{between_none, between-over, between-filled}
use Rattle.sets.proofs.ranges.between.Goals as goal

pub returns-then-end-from : goal.returns-then-end-from
returns-then-end-from c =
    between_none c.args.place c.args.above c.args.under c.args.low c.args.high _ _ _ c.next_if-from.ensures c.next_if-end.ensures
    c.if-end-from.true

pub returns-then-n : goal.returns-then-n
returns-then-n c =
    between-over c.args.place c.args.above c.args.under c.args.low c.args.high _ _ _ c.next_if-from.ensures c.next_if-end.ensures _ refl
    c.if-n.true

pub returns : goal.returns
returns c =
    between-filled c.args.place c.args.above c.args.under c.args.low c.args.high _ _ _ c.next_if-from.ensures c.next_if-end.ensures _ refl
    c.if-n.false c.fill.ensures
