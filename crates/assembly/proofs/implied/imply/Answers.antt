-- `imply` meets its contract: the line of a bus is added where its enumeration leaves a word unnamed.
use native.Mathlib.Omega.{arith}
use Rattle.assembly.specs.ImpliedLaws.{bus-readable, bus-tabled, bus-line, bus_none, bus-one}
use Rattle.assembly.proofs.implied.imply.Goals as goal

pub overflow_add-from : goal.overflow_add-from
overflow_add-from c =
    omega (arith, c.requires.entry)

pub identifiers_end-to-requires : goal.identifiers_end-to-requires
identifiers_end-to-requires c =
    (c.requires.room.work, c.requires.entry)

pub leaves_unnamed-requires : goal.leaves_unnamed-requires
leaves_unnamed-requires c =
    bus-tabled c.identifiers_end-to.ensures c.requires

pub returns-then-not-leaves_unnamed : goal.returns-then-not-leaves_unnamed
returns-then-not-leaves_unnamed c =
    λ ps q b. bus_none c.identifiers_end-to.ensures ps q b c.leaves_unnamed.ensures c.if-not-leaves_unnamed.true

pub one_of-next-requires : goal.one_of-next-requires
one_of-next-requires c =
    (bus-readable c.identifiers_end-to.ensures c.requires, c.requires.bus.small)

pub add_line-count-requires : goal.add_line-count-requires
add_line-count-requires c =
    bus-line c.identifiers_end-to.ensures c.requires c.one_of-next.ensures

pub returns : goal.returns
returns c =
    λ ps q b. bus-one c.identifiers_end-to.ensures ps q b c.leaves_unnamed.ensures c.if-not-leaves_unnamed.false
    c.one_of-next.ensures c.add_line-count.ensures
