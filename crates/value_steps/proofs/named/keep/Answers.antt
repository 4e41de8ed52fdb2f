-- A set is left to `keep_set`; a number is noted, and whatever else has come goes on.
use Prim.Native.Nat.{◌+◌}
use mathlib.Core.Path.{refl}
use native.Mathlib.Omega.{arith}
use Rattle.machine.specs.Fields.{value_field, other_field}
use Rattle.machine.specs.ContractLaws.{takes-next}
use Rattle.value_steps.specs.ReleaseLaws.{takes_in}
use Rattle.value_steps.specs.KeepLaws.{keep-name, keep-passes, keep-number}
use Rattle.value_steps.proofs.named.keep.Goals as goal

pub overflow_cast-scope : goal.overflow_cast-scope
overflow_cast-scope c =
    omega (arith, c.type_inv.memory (c.args.m.frames + value_field))

pub returns-then-m-ne-NUMBER : goal.returns-then-m-ne-NUMBER
returns-then-m-ne-NUMBER c =
    let at-released = c.released in
    takes-next at-released.ensures (keep-passes c.requires.waiting refl)

pub overflow_cast-r : goal.overflow_cast-r
overflow_cast-r c =
    omega (arith, c.type_inv.memory (c.args.m.frames + other_field))

pub note-requires : goal.note-requires
note-requires c =
    let k = keep-name c.requires.waiting c.requires.topped refl in
    (k.declared, k.inside, omega arith)

pub returns : goal.returns
returns c =
    let at-if2 = c.if-m-ne-NUMBER in
    let at-note = c.note in
    takes-next c.released-2.ensures (takes_in at-note.ensures (keep-number c.requires.waiting refl refl at-if2.false))
