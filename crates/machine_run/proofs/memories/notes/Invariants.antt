-- `memories::notes` meets its contract: after r turns the notes of the first r names are brought.
use Rattle.machine_run.specs.Bringing.{Renoted}
use Rattle.machine_run.proofs.memories.notes.Given as goal

abbrev pub invariant-loop-r : goal.invariant-loop-r
invariant-loop-r l = Renoted l.source l.initial.memory l.memory l.r
