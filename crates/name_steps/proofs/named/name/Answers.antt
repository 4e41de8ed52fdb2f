-- By the sort of the name's note.
use lib.ListN.{get_or}
use Rattle.std.specs.Prelude.{Ok}
use Rattle.machine.specs.declared.Machine.{Machine}
use Rattle.machine.specs.declared.Move.TheVariants.{Next}
use mathlib.Core.Path.{refl, ap, sym, ◌∙◌}
use native.Mathlib.Omega.{arith}
use Rattle.machine.specs.ContractLaws.{writes_as}
use Rattle.value_steps.specs.NameLaws.{note_inside, note_first, reference-inside}
use Rattle.name_steps.specs.NameLaws.{ready_of, element-refused, nothing-refused, other-refused, signal-number, signal-writes}
use Rattle.name_steps.proofs.named.name.Goals as goal

pub bounds-source-k : goal.bounds-source-k
bounds-source-k c =
    reference-inside (ready_of c.requires.ready_to_write) (let e = c.requires.expands.mode in omega arith)

pub returns-then-r-ge-MAX_NAMES : goal.returns-then-r-ge-MAX_NAMES
returns-then-r-ge-MAX_NAMES c =
    let at-if1 = c.if-r-ge-MAX_NAMES in
    element-refused c.requires.expands refl (let e = at-if1.true in omega arith)

pub bounds-memory-at : goal.bounds-memory-at
bounds-memory-at c =
    let at-if1 = c.if-r-ge-MAX_NAMES in
    let r = get_or c.args.source.now.refs.now c.args.m.value 0 in
    let e = at-if1.false in
    let i = note_inside {r = r} (ready_of c.requires.ready_to_write) (omega arith) in
    omega arith

pub defined-requires : goal.defined-requires
defined-requires c =
    let at-if1 = c.if-r-ge-MAX_NAMES in
    let at-if2 = c.if-sort in
    let r = get_or c.args.source.now.refs.now c.args.m.value 0 in
    let first = note_first c.args.memory.now r in
    let e = at-if1.false in
    record {
      ready_to_write = c.requires.ready_to_write;
      defined = record { named = c.requires.expands; same = refl; declared = omega arith; body = sym first ∙ at-if2.true };
    }

pub returns-then-sort : goal.returns-then-sort
returns-then-sort c =
    let at-defined = c.defined in
    at-defined.ensures

pub signal_at-n-requires : goal.signal_at-n-requires
signal_at-n-requires c =
    let at-if1 = c.if-r-ge-MAX_NAMES in
    let at-if3 = c.if-sort-2 in
    let r = get_or c.args.source.now.refs.now c.args.m.value 0 in
    let first = note_first c.args.memory.now r in
    let e = at-if1.false in
    let i = note_inside {r = r} (ready_of c.requires.ready_to_write) (omega arith) in
    (omega arith, signal-number c.requires.expands refl (omega arith) c.requires.ready_to_write (sym first ∙ at-if3.true))

pub returns-then-sort-2 : goal.returns-then-sort-2
returns-then-sort-2 c =
    let at-if1 = c.if-r-ge-MAX_NAMES in
    let at-if3 = c.if-sort-2 in
    let at-signal-at = c.signal_at-n in
    let at-capped = c.capped in
    let at-wrote = c.wrote in
    let r = get_or c.args.source.now.refs.now c.args.m.value 0 in
    let first = note_first c.args.memory.now r in
    let e = at-if1.false in
    writes_as (ap (λ (y : Machine). Ok (Next y)) at-wrote.ensures) (signal-writes c.requires.expands refl (omega arith) (sym first ∙ at-if3.true) at-signal-at.ensures at-capped.ensures)

pub returns-then-sort-3 : goal.returns-then-sort-3
returns-then-sort-3 c =
    let at-if1 = c.if-r-ge-MAX_NAMES in
    let r = get_or c.args.source.now.refs.now c.args.m.value 0 in
    let first = note_first c.args.memory.now r in
    let e = at-if1.false in
    nothing-refused c.requires.expands refl (omega arith) (sym first ∙ c.if-sort-3.true)

pub returns : goal.returns
returns c =
    let at-if1 = c.if-r-ge-MAX_NAMES in
    let at-if2 = c.if-sort in
    let r = get_or c.args.source.now.refs.now c.args.m.value 0 in
    let first = note_first c.args.memory.now r in
    let e = at-if1.false in
    other-refused c.requires.expands refl (omega arith) (λ z. at-if2.false (first ∙ z)) (λ z. c.if-sort-2.false (first ∙ z)) (λ z. c.if-sort-3.false (first ∙ z))
