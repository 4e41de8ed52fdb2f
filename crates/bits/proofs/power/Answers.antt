-- `power` meets its contract: a shift of 1.
use Rattle.std.proofs.Common.{◌∙◌, arith, shl_exact}
use Rattle.bits.proofs.power.Goals as goal

pub returns : goal.returns
returns c = shl_exact 1 c.args.s 32 (omega arith) (omega arith) ∙ omega arith
