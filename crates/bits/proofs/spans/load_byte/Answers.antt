-- `load_byte` meets its contract: a number of one byte.
use Rattle.std.proofs.Common.{add-zero, arith}
use Rattle.words.specs.Words.{read_at}
use Rattle.bits.proofs.spans.load_byte.Goals as goal

pub returns : goal.returns
unfolding read_at
returns c = simp add-zero (omega (arith, c.from.ensures))
