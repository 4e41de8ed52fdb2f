-- The pass from entry to entry: what has run is the definition's, and at the end that has found the first bad word.
use Rattle.enumerations.specs.Running.{Ran}
use Rattle.enumerations.proofs.wrong_words.Given as goal

abbrev pub invariant-loop-i : goal.invariant-loop-i
invariant-loop-i l = Ran l.text l.work l.entries l.i l.p l.owners l.rows
