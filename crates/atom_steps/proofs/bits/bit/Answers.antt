-- `bits::bit` meets its contract: the body of a definition is a bus of a width or of none, or no bus; the index is below the width, or it is refused.
use Rattle.machine.specs.Fields.{value_field}
use native.Mathlib.Omega.{arith}
use Prim.Native.Nat.{◌+◌}
use mathlib.Core.Path.{refl}
use Rattle.atom_steps.specs.BitLaws.{note_inside}
use Rattle.atom_steps.specs.BitOfLaws.{bit-misfits, bit_unsized, bit-name, bit-refuses, bit-fits, bit-steps}
use Rattle.atom_steps.proofs.bits.bit.Goals as goal

pub returns-then-m-eq-UNSIZED : goal.returns-then-m-eq-UNSIZED
returns-then-m-eq-UNSIZED c =
    let at-if1 = c.if-m-eq-UNSIZED in
    bit_unsized c.requires.waiting at-if1.true

pub returns-then-m-ne-BUS : goal.returns-then-m-ne-BUS
returns-then-m-ne-BUS c =
    let at-if1 = c.if-m-eq-UNSIZED in
    let at-if2 = c.if-m-ne-BUS in
    bit-misfits c.requires.waiting at-if1.false at-if2.true

pub overflow_cast-scope : goal.overflow_cast-scope
overflow_cast-scope c =
    omega (arith, c.type_inv.memory (c.args.m.frames + value_field))

pub overflow_mul-width : goal.overflow_mul-width
overflow_mul-width c =
    let at-if2 = c.if-m-ne-BUS in
    let l = bit-name c.requires.waiting at-if2.false c.requires.topped_to_write in omega arith

pub overflow_add-width : goal.overflow_add-width
overflow_add-width c =
    let at-if2 = c.if-m-ne-BUS in
    let l = bit-name c.requires.waiting at-if2.false c.requires.topped_to_write in omega arith

pub offset_bounds-memory-r : goal.offset_bounds-memory-r
offset_bounds-memory-r c =
    let at-if2 = c.if-m-ne-BUS in
    let l = note_inside c.requires.topped_to_write (bit-name c.requires.waiting at-if2.false c.requires.topped_to_write) in omega arith

pub bounds-memory-r : goal.bounds-memory-r
bounds-memory-r c =
    let at-if2 = c.if-m-ne-BUS in
    let l = note_inside c.requires.topped_to_write (bit-name c.requires.waiting at-if2.false c.requires.topped_to_write) in omega arith

pub returns-then-width-i : goal.returns-then-width-i
returns-then-width-i c =
    let at-if2 = c.if-m-ne-BUS in
    let at-if3 = c.if-width-i in
    bit-refuses c.requires.waiting at-if2.false refl refl at-if3.true

pub signal_at-n-requires : goal.signal_at-n-requires
signal_at-n-requires c =
    let at-if2 = c.if-m-ne-BUS in
    let at-if3 = c.if-width-i in
    ((let l = note_inside c.requires.topped_to_write (bit-name c.requires.waiting at-if2.false c.requires.topped_to_write) in omega arith), bit-fits c.requires.waiting at-if2.false refl refl at-if3.false c.requires.topped_to_write)

pub returns : goal.returns
returns c =
    let at-if2 = c.if-m-ne-BUS in
    let at-if3 = c.if-width-i in
    let at-signal-at = c.signal_at-n in
    let at-capped = c.capped-nodes in
    bit-steps c.requires.waiting at-if2.false refl refl at-if3.false refl at-signal-at.ensures at-capped.ensures
