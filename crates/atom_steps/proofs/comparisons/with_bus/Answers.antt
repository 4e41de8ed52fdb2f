-- `comparisons::with_bus` meets its contract: an identifier has come for a bus, or what is none.
use Rattle.machine.specs.Fields.{other_field}
use native.Mathlib.Omega.{arith}
use Prim.Native.Nat.{◌+◌}
use mathlib.Core.Path.{refl}
use Rattle.atom_steps.specs.ComparisonLaws.{bus-misfits, bus_faces}
use Rattle.atom_steps.proofs.comparisons.with_bus.Goals as goal

pub returns-then-m-ne-CHOICE : goal.returns-then-m-ne-CHOICE
returns-then-m-ne-CHOICE c =
    let at-if1 = c.if-m-ne-CHOICE in
    bus-misfits c.requires.comparing at-if1.true

pub overflow_cast-bus : goal.overflow_cast-bus
overflow_cast-bus c =
    omega (arith, c.type_inv.memory (c.args.m.frames + other_field))

pub against-requires : goal.against-requires
against-requires c =
    let at-if1 = c.if-m-ne-CHOICE in
    record { topped_to_write = c.requires.topped_to_write; faces = bus_faces c.requires.comparing at-if1.false refl refl }
