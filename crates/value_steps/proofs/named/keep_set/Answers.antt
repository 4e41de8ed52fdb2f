-- A kept set, one that does not fit, one that is copied: each by its law.
use Prim.Native.Nat.{◌+◌}
use mathlib.Core.Path.{refl, ap, ◌∙◌}
use lib.ListN.{length, get_or, length-set}
use native.Mathlib.Omega.{arith}
use Rattle.machine.specs.Fields.{value_field, other_field}
use Rattle.machine.specs.ContractLaws.{takes-next}
use Rattle.value_steps.specs.ReleaseLaws.{takes_in}
use Rattle.value_steps.specs.Moves.{released}
use Rattle.value_steps.specs.KeepLaws.{keep-name, keep-inside, keep-passes, keep-kept, keep-copied}
use Rattle.machine.specs.declared.Machine.{Machine}
use Rattle.value_steps.proofs.named.keep_set.Goals as goal

pub overflow_cast-scope : goal.overflow_cast-scope
overflow_cast-scope c =
    omega (arith, c.type_inv.memory (c.args.m.frames + value_field))

pub overflow_cast-r : goal.overflow_cast-r
overflow_cast-r c =
    omega (arith, c.type_inv.memory (c.args.m.frames + other_field))

pub note-requires : goal.note-requires
note-requires c =
    let at-if1 = c.if-m-free in
    let k = keep-name c.requires.waiting c.requires.topped refl in
    let e = at-if1.true in
    (k.declared, k.inside, omega arith)

pub returns-then-m-free : goal.returns-then-m-free
returns-then-m-free c =
    let at-if1 = c.if-m-free in
    let at-note = c.note in
    let at-released = c.released in
    takes-next at-released.ensures (takes_in at-note.ensures (keep-kept c.requires.waiting refl refl c.requires.mode_value at-if1.true))

pub returns-then-memory-end : goal.returns-then-memory-end
returns-then-memory-end c =
    let at-released2 = c.released-then-memory-end in
    takes-next at-released2.ensures (keep-passes c.requires.waiting refl)

pub lower-requires : goal.lower-requires
lower-requires c =
    let at-if1 = c.if-m-free in
    let e = at-if1.false in
    (omega arith, keep-inside c.requires.waiting c.requires.topped c.requires.mode_value)

pub overflow_cast-memory-2 : goal.overflow_cast-memory-2
overflow_cast-memory-2 c =
    let at-if2 = c.if-memory-end in
    let e = at-if2.false in omega arith

pub bounds-memory-1024-2 : goal.bounds-memory-1024-2
bounds-memory-1024-2 c =
    let at-lower = c.lower in
    let k = keep-name c.requires.waiting c.requires.topped refl in
    let i = k.inside in
    let l = at-lower.ensures.kept.len in
    omega arith

pub note-requires-2 : goal.note-requires-2
note-requires-2 c =
    let at-lower = c.lower in
    let k = keep-name c.requires.waiting c.requires.topped refl in
    let i = k.inside in
    let l = at-lower.ensures.kept.len in
    (k.declared, simp length-set (omega arith), omega arith)

pub released-requires-2 : goal.released-requires-2
released-requires-2 c =
    let at-came = c.came in
    let k = keep-name c.requires.waiting c.requires.topped refl in
    let f = k.frames in
    let e = ap (λ (n : Machine). n.frames) at-came.ensures in
    let l = c.requires.topped.lent.small in
    omega arith

pub shape_of-memory : goal.shape_of-memory
shape_of-memory c =
    let at-lower = c.lower in
    let l = at-lower.ensures.kept.len in ap length c.note-2.ensures ∙ simp length-set l

pub returns : goal.returns
returns c =
    let at-if2 = c.if-memory-end in
    let at-lower = c.lower in
    let at-came = c.came in
    let scope = get_or c.args.memory.now (c.args.m.frames + value_field) 0 in
    takes-next (c.released-2.ensures ∙ ap (λ (n : Machine). released n scope) at-came.ensures) (takes_in c.note-2.ensures
    (keep-copied c.requires.waiting refl refl c.requires.mode_value (let e = at-if2.false in omega arith) at-lower.ensures))
