-- The sum so far and the words that are left give the checksum of all.
use Rattle.stored_texts.proofs.Laws.{Summing}
use Rattle.stored_texts.proofs.sums.checksum.Given as goal

abbrev pub invariant-loop-word : goal.invariant-loop-word
invariant-loop-word l = Summing l.words l.sum l.word-index
