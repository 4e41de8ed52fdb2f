-- `load_word` meets its contract: eight bytes, one after the other.
use Rattle.std.proofs.Common.{add-zero, arith}
use Rattle.words.specs.Words.{read_at}
use Rattle.bits.proofs.spans.load_word.Goals as goal

pub returns : goal.returns
unfolding read_at
returns c = simp add-zero (omega arith)
