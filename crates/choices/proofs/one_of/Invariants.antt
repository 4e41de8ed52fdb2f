-- From word to word: those so far are folded.
use Rattle.choices.specs.PromiseLaws.{Matching}
use Rattle.choices.proofs.one_of.Given as goal

abbrev pub invariant-loop-i : goal.invariant-loop-i
invariant-loop-i l = Matching l.text l.work l.from l.to l.first l.initial.out l.at l.i l.f l.out
