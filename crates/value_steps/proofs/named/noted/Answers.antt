use Prim.Native.Nat.{◌+◌, ◌*◌}
use native.Mathlib.Omega.{arith}
use mathlib.Core.Path.{refl}
use Rattle.value_steps.specs.NameLaws.{note_inside, note_first, sort-few, number-steps, signal-steps, set-steps, unsized-steps, bus-steps, identifier-steps, nothing-steps}
use Rattle.machine.specs.OperandLaws.{ready-entry}
use Rattle.machine.specs.ContractLaws.{steps_next}
use Rattle.value_steps.proofs.named.noted.Goals as goal

pub bounds-memory-at : goal.bounds-memory-at
bounds-memory-at c =
    let i = note_inside c.requires.ready c.requires.refers.declared in omega arith

pub bounds-memory-at-2 : goal.bounds-memory-at-2
bounds-memory-at-2 c =
    let i = note_inside c.requires.ready c.requires.refers.declared in omega arith

pub returns-then-sort : goal.returns-then-sort
returns-then-sort c =
    let at-if1 = c.if-sort in
    let at-came = c.came in
    steps_next at-came.ensures (number-steps c.requires.refers.named c.requires.refers.same c.requires.refers.declared (note_first c.args.memory.now c.args.r) refl at-if1.true)

pub bounds-memory-at-then-sort-2 : goal.bounds-memory-at-then-sort-2
bounds-memory-at-then-sort-2 c =
    let i = note_inside c.requires.ready c.requires.refers.declared in omega arith

pub overflow_cast-memory : goal.overflow_cast-memory
overflow_cast-memory c =
    omega (arith, c.type_inv.memory (4 * c.args.r + 2))

pub returns-then-sort-2 : goal.returns-then-sort-2
returns-then-sort-2 c =
    steps_next c.came-then-sort-2.ensures (set-steps c.requires.refers.named c.requires.refers.same c.requires.refers.declared (note_first c.args.memory.now c.args.r) refl c.if-sort-2.true refl)

pub place_at-place-requires : goal.place_at-place-requires
place_at-place-requires c =
    ready-entry c.requires.ready (let e = c.requires.refers.named.mode in omega arith)

pub returns-then-n-eq0 : goal.returns-then-n-eq0
returns-then-n-eq0 c =
    let at-place-at = c.place_at-place in
    let at-if4 = c.if-n-eq0 in
    let at-came3 = c.came-then-n-eq0 in
    steps_next at-came3.ensures (unsized-steps c.requires.refers.named c.requires.refers.same c.requires.refers.declared (note_first c.args.memory.now c.args.r) refl c.if-sort-3.true at-if4.true at-place-at.ensures)

pub returns-then-sort-3 : goal.returns-then-sort-3
returns-then-sort-3 c =
    let at-place-at = c.place_at-place in
    let at-if4 = c.if-n-eq0 in
    steps_next c.came-then-sort-3.ensures (bus-steps c.requires.refers.named c.requires.refers.same c.requires.refers.declared (note_first c.args.memory.now c.args.r) refl c.if-sort-3.true at-if4.false at-place-at.ensures)

pub returns-then-sort-4 : goal.returns-then-sort-4
returns-then-sort-4 c =
    steps_next c.came-then-sort-4.ensures (signal-steps c.requires.refers.named c.requires.refers.same c.requires.refers.declared (note_first c.args.memory.now c.args.r) refl c.if-sort-4.true)

pub returns-then-sort-5 : goal.returns-then-sort-5
returns-then-sort-5 c =
    steps_next c.came-then-sort-5.ensures (identifier-steps c.requires.refers.named c.requires.refers.same c.requires.refers.declared (note_first c.args.memory.now c.args.r) refl c.if-sort-5.true)

pub returns : goal.returns
returns c =
    let at-if1 = c.if-sort in
    nothing-steps c.requires.refers.named c.requires.refers.same c.requires.refers.declared (note_first c.args.memory.now c.args.r) refl
    (let f = sort-few c.requires.refers.named c.requires.refers.same c.requires.refers.declared (note_first c.args.memory.now c.args.r) refl c.requires.ready in let a = note_first c.args.memory.now c.args.r in
    let b = c.requires.refers.no_body in let e1 = at-if1.false in let e2 = c.if-sort-2.false in let e3 = c.if-sort-3.false in let e5 = c.if-sort-4.false in let e6 = c.if-sort-5.false in omega arith)
