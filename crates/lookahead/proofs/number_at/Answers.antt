-- `number_at` meets its contract: two bytes of the far ones, or a byte of the near ones.
use mathlib.Core.Path.{sym, ap, ◌∙◌}
use Prim.Native.Nat.{◌+◌}
use native.Mathlib.Omega.{arith}
use Rattle.lookahead.proofs.KeptLaws.{number_far, number_near, widened_silent, widened-endless, widened-bounded}
use Rattle.lookahead.proofs.number_at.Goals as goal

pub returns-then-i-ge-NEAR : goal.returns-then-i-ge-NEAR
returns-then-i-ge-NEAR c = sym (number_far c.args.near.now c.args.far.now c.args.i (omega arith))

pub returns-then-s-eq0 : goal.returns-then-s-eq0
returns-then-s-eq0 c =
    sym (number_near c.args.near.now c.args.far.now c.args.i (omega arith) ∙ widened_silent _ c.if-s-eq0.true)

pub returns-then-s : goal.returns-then-s
returns-then-s c =
    sym (number_near c.args.near.now c.args.far.now c.args.i (omega arith) ∙ widened-endless _ c.if-s-eq0.false c.if-s.true)

pub overflow_add-result : goal.overflow_add-result
overflow_add-result c = let h = c.type_inv.near c.args.i in omega arith

pub returns : goal.returns
returns c =
    ap (◌+ 16383) c.from.ensures ∙ sym (number_near c.args.near.now c.args.far.now c.args.i (omega arith) ∙ widened-bounded _ c.if-s-eq0.false c.if-s.false)
