-- `words::get` meets its contract: the four bytes are read as `read_at` reads them.
use native.Mathlib.Omega.{arith}
use native.Mathlib.Nat.{add-zero}
use Rattle.words.specs.Words.{read_at, word_at}
use Rattle.words.proofs.get.Goals as goal

pub returns : goal.returns
unfolding word_at read_at
returns c = simp add-zero (omega arith)
