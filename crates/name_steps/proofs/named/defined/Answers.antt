-- Marked nodes are copied; without a mark the body is worked out.
use mathlib.Core.Path.{ap}
use Rattle.std.specs.Prelude.{Ok}
use Rattle.machine.specs.declared.Machine.{Machine}
use Rattle.machine.specs.declared.Move.TheVariants.{Next}
use native.Mathlib.Omega.{arith}
use Rattle.machine.specs.ContractLaws.{writes_as}
use Rattle.machine.specs.OpenLaws.{ready_open}
use Rattle.value_steps.specs.NameLaws.{note_inside}
use Rattle.name_steps.specs.NameLaws.{ready_of, mark-copyable, mark-writes, body-writes}
use Rattle.name_steps.proofs.named.defined.Goals as goal

pub overflow_mul-at : goal.overflow_mul-at
overflow_mul-at c =
    let l = c.requires.defined.declared in omega arith

pub overflow_add-mark : goal.overflow_add-mark
overflow_add-mark c =
    let l = c.requires.defined.declared in omega arith

pub offset_bounds-memory-at : goal.offset_bounds-memory-at
offset_bounds-memory-at c =
    let l = c.requires.defined.declared in omega arith

pub bounds-memory-at : goal.bounds-memory-at
bounds-memory-at c =
    let i = note_inside (ready_of c.requires.ready_to_write) c.requires.defined.declared in omega arith

pub again-n-requires : goal.again-n-requires
again-n-requires c =
    let at-if1 = c.if-mark-ne0 in
    mark-copyable c.requires.defined.named c.requires.defined.same c.requires.defined.declared c.requires.ready_to_write at-if1.true

pub returns-then-mark-ne0 : goal.returns-then-mark-ne0
returns-then-mark-ne0 c =
    let at-if1 = c.if-mark-ne0 in
    let at_again = c.again-n in
    let at-capped = c.capped in
    let at-wrote = c.wrote in
    writes_as (ap (λ (y : Machine). Ok (Next y)) at-wrote.ensures)
    (mark-writes c.requires.defined.named c.requires.defined.same c.requires.defined.declared c.requires.defined.body at-if1.true at_again.ensures at-capped.ensures)

pub overflow_add-n : goal.overflow_add-n
overflow_add-n c =
    let l = c.requires.defined.declared in omega arith

pub offset_bounds-memory-at-2 : goal.offset_bounds-memory-at-2
offset_bounds-memory-at-2 c =
    let l = c.requires.defined.declared in omega arith

pub bounds-memory-at-2 : goal.bounds-memory-at-2
bounds-memory-at-2 c =
    let i = note_inside (ready_of c.requires.ready_to_write) c.requires.defined.declared in omega arith

pub enclose-requires : goal.enclose-requires
enclose-requires c =
    let l = c.requires.defined.declared in
    let f = c.requires.ready_to_write.state.few in
    record {
      openable = ready_open (ready_of c.requires.ready_to_write) (let z = c.requires.defined.named.mode in omega arith);
      kept_bound = (omega arith, omega arith);
    }

pub returns : goal.returns
returns c =
    let at-enclose = c.enclose in
    body-writes c.requires.defined.named c.requires.defined.same c.requires.defined.declared c.requires.defined.body at-enclose.ensures
