-- `narrowed` meets its contract.
use mathlib.Core.Path.{sym}
use native.Mathlib.Omega.{arith}
use Rattle.lookahead.proofs.KeptLaws.{narrow_silent, narrow_endless, narrow_bounded}
use Rattle.lookahead.proofs.narrowed.Goals as goal

pub returns-then-s-lt-HERE : goal.returns-then-s-lt-HERE
returns-then-s-lt-HERE c = sym (narrow_silent c.args.s c.if-s-lt-HERE.true)

pub returns-then-s-ge-ENDLESS : goal.returns-then-s-ge-ENDLESS
returns-then-s-ge-ENDLESS c = sym (narrow_endless c.args.s c.if-s-lt-HERE.false c.if-s-ge-ENDLESS.true)

pub overflow_cast-result : goal.overflow_cast-result
overflow_cast-result c = let h = c.requires (omega arith) in omega arith

pub returns : goal.returns
returns c = sym (narrow_bounded c.args.s (omega arith) (omega arith))
