-- `comparisons::with_identifier` meets its contract: a bus has come for an identifier, or what is none.
use Rattle.machine.specs.Fields.{other_field}
use native.Mathlib.Omega.{arith}
use Prim.Native.Nat.{◌+◌}
use mathlib.Core.Path.{refl}
use Rattle.atom_steps.specs.ComparisonLaws.{identifier_unsized, identifier-misfits, identifier_faces}
use Rattle.atom_steps.proofs.comparisons.with_identifier.Goals as goal

pub returns-then-m-eq-UNSIZED : goal.returns-then-m-eq-UNSIZED
returns-then-m-eq-UNSIZED c =
    let at-if1 = c.if-m-eq-UNSIZED in
    identifier_unsized c.requires.comparing at-if1.true

pub returns-then-m-ne-BUS : goal.returns-then-m-ne-BUS
returns-then-m-ne-BUS c =
    let at-if1 = c.if-m-eq-UNSIZED in
    let at-if2 = c.if-m-ne-BUS in
    identifier-misfits c.requires.comparing at-if1.false at-if2.true

pub overflow_cast-identifier : goal.overflow_cast-identifier
overflow_cast-identifier c =
    omega (arith, c.type_inv.memory (c.args.m.frames + other_field))

pub against-requires : goal.against-requires
against-requires c =
    let at-if2 = c.if-m-ne-BUS in
    record { topped_to_write = c.requires.topped_to_write; faces = identifier_faces c.requires.comparing at-if2.false refl }
