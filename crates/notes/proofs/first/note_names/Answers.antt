use native.Mathlib.Omega.{arith}
use Rattle.notes.specs.NotingLaws.{noted_more}
use Rattle.notes.proofs.first.note_names.Goals as goal

pub loop-r-preserved : goal.loop-r-preserved
loop-r-preserved c = λ text refs count entries x s q. noted_more x text _ c.loop-r.sorts c.loop-r.numbers c.loop-r.r _ _ (omega arith) (omega arith)
    (c.loop-r.invariant text refs count entries x s q) (c.first_note-note.ensures text refs count entries x s q)

pub returns : goal.returns
returns c = λ text refs count entries x s q. record { noted = λ i l. c.loop-r.invariant text refs count entries x s q i (omega arith) }
