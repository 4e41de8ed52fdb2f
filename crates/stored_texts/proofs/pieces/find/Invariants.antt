-- No byte passed is the one looked for.
use Rattle.stored_texts.proofs.Laws.{Seeking}
use Rattle.stored_texts.proofs.pieces.find.Given as goal

abbrev pub invariant-loop-i : goal.invariant-loop-i
invariant-loop-i l = Seeking l.byte l.file l.at l.i
