-- `memories::bring` meets its contract: notes, kept sets, and a set that has come; or any other value.
use native.Mathlib.Omega.{arith}
use mathlib.Core.Path.{refl}
use Rattle.machine_run.specs.BringingLaws.{brought_set, brought_other}
use Rattle.machine_run.proofs.memories.bring.Goals as goal

pub copy-requires-then-n-eq-SET : goal.copy-requires-then-n-eq-SET
copy-requires-then-n-eq-SET c =
    let at-notes = c.notes in
    let at_copy = c.copy in
    let at-if1 = c.if-n-eq-SET in
    let s = c.requires.source-set at-if1.true in
    let f = c.requires.few at-if1.true in
    let r = c.requires.room in
    let l = at_copy.ensures.kept.len in
    let k = at-notes.ensures.len in (omega arith, omega arith)

pub returns-then-n-eq-SET : goal.returns-then-n-eq-SET
returns-then-n-eq-SET c =
    let at-notes = c.notes in
    let at_copy = c.copy in
    let at-if1 = c.if-n-eq-SET in
    let at-copy2 = c.copy-then-n-eq-SET in
    let at-returned = c.returned in
    brought_set c.requires refl refl at-notes.ensures at_copy.ensures at-if1.true refl at-copy2.ensures at-returned.ensures

pub returns : goal.returns
returns c =
    let at-notes = c.notes in
    let at_copy = c.copy in
    let at-if1 = c.if-n-eq-SET in
    brought_other c.requires refl refl at-notes.ensures at_copy.ensures at-if1.false c.returned-2.ensures
