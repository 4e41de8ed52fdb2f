-- `store_byte` meets its contract: a number of one byte.
use Rattle.std.proofs.Common.{add-zero}
use Rattle.words.specs.Words.{write_at}
use Rattle.bits.proofs.spans.store_byte.Goals as goal

pub returns : goal.returns
unfolding write_at
returns c = simp add-zero
