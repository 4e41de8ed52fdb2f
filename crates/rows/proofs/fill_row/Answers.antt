-- `fill_row` meets its contract: the kinds in their order.
use Prim.Native.Nat.{◌+◌, ◌≤◌}
use mathlib.Core.Logic.{inl}
use Rattle.bits.specs.Bits.{width}
use Rattle.rows.specs.ReadyLaws.{kind-lt, late}
use Rattle.rows.proofs.fill_row.Goals as goal

pub other-requires : goal.other-requires
other-requires c = record { ready = c.requires; plain = inl (inl c.if-kind-lt-NOT.true) }

pub other-requires-2 : goal.other-requires-2
other-requires-2 c =
    let op = c.args.op in
    let w = c.args.lasso in
    record { ready = c.requires; plain = late op c.if-kind-lt-NEXT.false (kind-lt op.kind (op.first + width w.n ≤ c.args.base) (op.second + width w.n ≤ c.args.base) c.requires.uses) }
