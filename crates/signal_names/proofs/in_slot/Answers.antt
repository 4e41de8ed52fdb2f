-- `in_slot` meets its contract: the bytes compared are those of the slot and of the place.
use Prim.Native.Nat.{ℕ, ◌*◌, ◌+◌, ◌-◌}
use mathlib.Core.Path.{◌≡◌, sym, ap₂, ◌∙◌}
use native.Mathlib.Omega.{arith}
use lib.ListN.{get_or}
use Rattle.std.specs.Prelude.{nat_eq}
use Rattle.std.specs.Cmp.Lexicographic.{pointwise}
use Rattle.signal_names.specs.Promise.{slot_bytes, slot, part}
use Rattle.signal_names.specs.SlotLaws.{same-pointwise}
use Rattle.signal_names.proofs.in_slot.Goals as goal

pub returns : goal.returns
returns c =
    let a = c.args in
    let start : ℕ = slot_bytes * a.j in
    let n : start + get_or a.sizes.now a.j 0 - start ≡ get_or a.sizes.now a.j 0 = omega arith in
    let m : a.at + a.size - a.at ≡ a.size = omega arith in
    c.eq.ensures ∙ ap₂ (λ (i k : ℕ). pointwise nat_eq (part a.names.now start i) (part a.names.now a.at k)) n m
    ∙ sym (same-pointwise (slot a.names.now a.sizes.now a.j) (part a.names.now a.at a.size))
