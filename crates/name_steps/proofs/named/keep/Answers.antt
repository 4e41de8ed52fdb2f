-- A formula is marked; whatever else has come goes on.
use Prim.Native.Nat.{◌+◌}
use mathlib.Core.Path.{refl}
use native.Mathlib.Omega.{arith}
use Rattle.machine.specs.Fields.{at_field, value_field, other_field}
use Rattle.machine.specs.ContractLaws.{takes-next}
use Rattle.name_steps.specs.KeepLaws.{keep-passes, keep-name, keep-formula}
use Rattle.name_steps.proofs.named.keep.Goals as goal

pub overflow_cast-scope : goal.overflow_cast-scope
overflow_cast-scope c =
    omega (arith, c.type_inv.memory (c.args.m.frames + value_field))

pub returns-then-m-ne-NODES : goal.returns-then-m-ne-NODES
returns-then-m-ne-NODES c =
    let at-released = c.released in
    takes-next at-released.ensures (keep-passes c.requires.waiting refl)

pub overflow_cast-from : goal.overflow_cast-from
overflow_cast-from c =
    omega (arith, c.type_inv.memory (c.args.m.frames + at_field))

pub overflow_cast-r : goal.overflow_cast-r
overflow_cast-r c =
    omega (arith, c.type_inv.memory (c.args.m.frames + other_field))

pub mark-requires : goal.mark-requires
mark-requires c =
    let at-if1 = c.if-m-ne-NODES in
    (keep-name c.requires.waiting at-if1.false refl refl c.requires.topped).some

pub overflow_mul-memory : goal.overflow_mul-memory
overflow_mul-memory c =
    let at-if1 = c.if-m-ne-NODES in
    let k = keep-name c.requires.waiting at-if1.false refl refl c.requires.topped in
    let d = k.declared in let n = k.inside in omega arith

pub overflow_add-memory : goal.overflow_add-memory
overflow_add-memory c =
    let at-if1 = c.if-m-ne-NODES in
    let k = keep-name c.requires.waiting at-if1.false refl refl c.requires.topped in
    let d = k.declared in let n = k.inside in omega arith

pub offset_bounds-memory-r : goal.offset_bounds-memory-r
offset_bounds-memory-r c =
    let at-if1 = c.if-m-ne-NODES in
    let k = keep-name c.requires.waiting at-if1.false refl refl c.requires.topped in
    let d = k.declared in let n = k.inside in omega arith

pub bounds-memory-r : goal.bounds-memory-r
bounds-memory-r c =
    let at-if1 = c.if-m-ne-NODES in
    let k = keep-name c.requires.waiting at-if1.false refl refl c.requires.topped in
    let d = k.declared in let n = k.inside in omega arith

pub returns : goal.returns
returns c =
    let at-if1 = c.if-m-ne-NODES in
    let at_mark = c.mark in
    takes-next c.released-2.ensures (keep-formula c.requires.waiting at-if1.false refl refl refl at_mark.ensures)
