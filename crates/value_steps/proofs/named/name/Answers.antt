use mathlib.Core.Path.{refl, ◌∙◌}
use lib.ListN.{get_or}
use native.Mathlib.Omega.{arith}
use Rattle.value_steps.specs.NameLaws.{note_inside, note_first, reference-inside, element-inside, element-steps, body-steps}
use Rattle.machine.specs.OpenLaws.{ready_open}
use Rattle.machine.specs.ContractLaws.{steps_next}
use Rattle.value_steps.proofs.named.name.Goals as goal

pub bounds-source-k : goal.bounds-source-k
bounds-source-k c =
    reference-inside c.requires.ready (let e = c.requires.evaluates.mode in omega arith)

pub overflow_add-i : goal.overflow_add-i
overflow_add-i c =
    let at-if1 = c.if-r-ge-MAX_NAMES in
    let i = element-inside c.requires.evaluates refl c.requires.ready (let e = at-if1.true in omega arith) in let s = c.requires.ready.lent.small in omega arith

pub offset_bounds-memory-i : goal.offset_bounds-memory-i
offset_bounds-memory-i c =
    let at-if1 = c.if-r-ge-MAX_NAMES in
    let i = element-inside c.requires.evaluates refl c.requires.ready (let e = at-if1.true in omega arith) in let s = c.requires.ready.lent.small in omega arith

pub bounds-memory-i : goal.bounds-memory-i
bounds-memory-i c =
    let at-if1 = c.if-r-ge-MAX_NAMES in
    element-inside c.requires.evaluates refl c.requires.ready (let e = at-if1.true in omega arith)

pub returns-then-r-ge-MAX_NAMES : goal.returns-then-r-ge-MAX_NAMES
returns-then-r-ge-MAX_NAMES c =
    let at-if1 = c.if-r-ge-MAX_NAMES in
    let at-came = c.came in
    steps_next at-came.ensures (element-steps c.requires.evaluates refl (let e = at-if1.true in omega arith) refl)

pub bounds-memory-at : goal.bounds-memory-at
bounds-memory-at c =
    let at-if1 = c.if-r-ge-MAX_NAMES in
    let i = note_inside {r = get_or c.args.source.now.refs.now c.args.m.value 0} c.requires.ready (let e = at-if1.false in omega arith) in omega arith

pub bounds-memory-at-2 : goal.bounds-memory-at-2
bounds-memory-at-2 c =
    let at-if1 = c.if-r-ge-MAX_NAMES in
    let i = note_inside {r = get_or c.args.source.now.refs.now c.args.m.value 0} c.requires.ready (let e = at-if1.false in omega arith) in omega arith

pub enclose-requires : goal.enclose-requires
enclose-requires c =
    let at-if1 = c.if-r-ge-MAX_NAMES in
    let e = at-if1.false in
    record { openable = ready_open c.requires.ready (let z = c.requires.evaluates.mode in omega arith); kept_bound = (omega arith, omega arith) }

pub returns-then-sort : goal.returns-then-sort
returns-then-sort c =
    let at-if1 = c.if-r-ge-MAX_NAMES in
    let at-if2 = c.if-sort in
    let at-enclose = c.enclose in
    body-steps c.requires.evaluates refl (let e = at-if1.false in omega arith)
    (note_first c.args.memory.now (get_or c.args.source.now.refs.now c.args.m.value 0)) refl at-if2.true at-enclose.ensures

pub noted-requires : goal.noted-requires
noted-requires c =
    let at-if1 = c.if-r-ge-MAX_NAMES in
    let at-if2 = c.if-sort in
    record {
      ready = c.requires.ready;
      refers = record {
        named = c.requires.evaluates;
        same = refl;
        declared = (let e = at-if1.false in omega arith);
        no_body = λ z. at-if2.false (note_first c.args.memory.now (get_or c.args.source.now.refs.now c.args.m.value 0) ∙ z);
      };
    }

pub returns : goal.returns
returns c =
    let at-noted = c.noted in
    at-noted.ensures
