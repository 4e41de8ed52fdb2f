-- `memories::note` meets its contract: a body's note is that of the source, any other stays.
use mathlib.Core.Path.{refl}
use Rattle.machine_run.specs.BringingLaws.{note_stays, note_comes}
use Rattle.machine_run.proofs.memories.note.Goals as goal

pub returns-then-memory-at : goal.returns-then-memory-at
returns-then-memory-at c =
    let at-if1 = c.if-memory-at in
    note_stays refl at-if1.true

pub returns : goal.returns
returns c =
    let at-if1 = c.if-memory-at in
    let at_copy = c.copy in
    note_comes refl at-if1.false at_copy.ensures
