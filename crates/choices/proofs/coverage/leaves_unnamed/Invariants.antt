-- From word to word: the rows so far are those of the words; at the end they are tested.
use Rattle.choices.specs.PromiseLaws.{Tabling}
use Rattle.choices.proofs.coverage.leaves_unnamed.Given as goal

abbrev pub invariant-loop-i : goal.invariant-loop-i
invariant-loop-i l = Tabling l.text l.work l.from l.to l.i l.rows l.count l.width
