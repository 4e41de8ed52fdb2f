use Prim.Native.Nat.{◌*◌}
use mathlib.Core.Path.{sym, ◌∙◌}
use native.Mathlib.Omega.{arith}
use borrow.Author.Count.{below_more}
use Rattle.signal_names.specs.Promise.{slot_bytes, part}
use Rattle.signal_names.specs.SlotLaws.{held_less, taken-found, taken_none}
use Rattle.signal_names.proofs.taken.Goals as goal

pub overflow_mul-at : goal.overflow_mul-at
overflow_mul-at c =
    omega (arith, c.requires.0.room)

pub in_slot-requires : goal.in_slot-requires
in_slot-requires c =
    (held_less c.args.names.now c.args.sizes.now _ c.requires.0 (omega arith), omega (arith, c.requires.0.room))

pub returns-then-in_slot : goal.returns-then-in_slot
returns-then-in_slot c =
    let a = c.args in
    sym (taken-found a.names.now a.sizes.now a.k c.loop-j.j (part a.names.now (slot_bytes * a.k) a.size) (omega arith) (sym c.in_slot.ensures ∙ c.if-in_slot.true))

pub loop-j-preserved : goal.loop-j-preserved
loop-j-preserved c = below_more _ _ c.loop-j.invariant (sym c.in_slot.ensures ∙ c.if-in_slot.false)

pub returns : goal.returns
returns c =
    let a = c.args in
    sym (taken_none a.names.now a.sizes.now a.k (part a.names.now (slot_bytes * a.k) a.size) (λ i h. c.loop-j.invariant i (omega arith)))
