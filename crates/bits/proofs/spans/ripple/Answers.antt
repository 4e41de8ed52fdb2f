-- `ripple` meets its contract: the sum is kept to 64 bits, and what is lost is outside p.
use Rattle.std.proofs.Common.{refl, arith}
use Rattle.bits.specs.RippleLaws.{ripple-sum}
use Rattle.bits.proofs.spans.ripple.Goals as goal

pub returns : goal.returns
returns c = let a = c.args in ripple-sum 64 a.p a.g a.c _ _ (omega arith) (omega arith) refl refl
