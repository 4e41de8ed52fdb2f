-- `set_bit` meets its contract: one byte is stored, with another bit.
use Rattle.std.proofs.Common.{refl}
use Rattle.bits.specs.Bits.{put_bit}
use Rattle.bits.proofs.set_bit.Goals as goal

pub returns : goal.returns
unfolding put_bit
returns c = rw (c.with_bit.ensures.0, c.from-x.ensures) refl
