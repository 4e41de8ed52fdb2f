use native.Mathlib.Omega.{arith}
use Rattle.std.specs.Prelude.{Ok}
use Rattle.machine.specs.declared.Move.TheVariants.{Next}
use mathlib.Core.Path.{refl, ap, ◌∙◌}
use Rattle.atom_steps.specs.BitLaws.{nothing-refuses, others-misfit, bit-refuses, bit-fits, bit-steps, note_inside}
use Rattle.machine.specs.declared.Machine.{Machine}
use Rattle.machine.specs.Moves.{wrote}
use Rattle.machine.specs.ContractLaws.{takes-to-write-as}
use Rattle.machine.specs.OperandLaws.{topped_to_write-entry}
use Rattle.atom_steps.proofs.bits.bit_of_name.Goals as goal

pub returns-then-sort : goal.returns-then-sort
returns-then-sort c =
    let at-if1 = c.if-sort in
    let p = c.requires.points in nothing-refuses p.waiting p.number p.entry p.reference p.declared refl refl at-if1.true

pub returns-then-sort-2 : goal.returns-then-sort-2
returns-then-sort-2 c =
    let at-if1 = c.if-sort in
    let p = c.requires.points in others-misfit p.waiting p.number p.entry p.reference p.declared refl refl p.no_body at-if1.false c.if-sort-2.true

pub place_at-requires : goal.place_at-requires
place_at-requires c =
    let f = topped_to_write-entry c.requires.topped_to_write in let e = c.requires.points.entry in ((let l = f.few in omega arith), f.work)

pub returns-then-width-m : goal.returns-then-width-m
returns-then-width-m c =
    let at-if3 = c.if-width-m in
    let at-place-at = c.place_at in
    let p = c.requires.points in bit-refuses p.waiting p.number p.entry p.reference p.declared refl refl c.if-sort-2.false at-if3.true at-place-at.ensures

pub signal_at-n-requires : goal.signal_at-n-requires
signal_at-n-requires c =
    let at-if3 = c.if-width-m in
    let p = c.requires.points in ((let l = note_inside c.requires.topped_to_write p.declared in omega arith), bit-fits p.waiting p.number p.entry p.reference p.declared refl refl c.if-sort-2.false at-if3.false c.requires.topped_to_write)

pub returns : goal.returns
returns c =
    let at-if3 = c.if-width-m in
    let at-signal-at = c.signal_at-n in
    let at-popped = c.popped in
    let at-capped = c.capped in
    let at-wrote = c.wrote in
    let p = c.requires.points in takes-to-write-as (ap (λ (y : Machine). Ok (Next y)) (at-wrote.ensures ∙ ap (λ (n : Machine). wrote n at-capped.result) at-popped.ensures))
    (bit-steps p.waiting p.number p.entry p.reference p.declared refl refl c.if-sort-2.false at-if3.false at-signal-at.ensures at-capped.ensures)
