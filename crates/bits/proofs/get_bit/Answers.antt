-- `get_bit` meets its contract: a shift is a division by a power of 2.
use Rattle.std.proofs.Common.{refl}
use Rattle.bits.specs.Bits.{bit_at}
use Rattle.bits.proofs.get_bit.Goals as goal

pub returns : goal.returns
unfolding bit_at
returns c = refl
