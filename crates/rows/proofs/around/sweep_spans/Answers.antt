use Prim.Native.Nat.{◌+◌, ◌*◌, ◌-◌, ◌<◌}
use mathlib.Core.Path.{sym, ◌∙◌}
use mathlib.Core.Logic.{inl}
use native.Mathlib.Omega.{arith}
use Rattle.bits.specs.BitLaws.{from_bool_digit}
use Rattle.rows.specs.StretchesLaws.{place-back, Fits}
use Rattle.rows.specs.SweepingLaws.{passed_none, passed_on, passed-fits, passed-whole, same_bit, settled}
use Rattle.rows.proofs.around.sweep_spans.Goals as goal

pub loop-k-init : goal.loop-k-init
loop-k-init c = passed_none _ _ _ _ _ (c.from-c.ensures ∙ from_bool_digit c.args.v)

here : (c : goal.In-loop-k) → Fits c.loop-k.rows c.args.op c.args.base c.args.s (c.loop-k.k - 1)
here c = passed-fits c.args.s c.loop-k.k c.requires.temporal.1 c.requires.placed (omega arith) (omega arith) c.loop-k.invariant

pub overflow_mul-p : goal.overflow_mul-p
overflow_mul-p c = let h = here c in omega (arith, h.few)

pub overflow_add-p : goal.overflow_add-p
overflow_add-p c = let h = here c in omega (arith, h.few)

pub overflow_mul-first : goal.overflow_mul-first
overflow_mul-first c = let h = here c in omega (arith, h.first-low)

pub overflow_add-first : goal.overflow_add-first
overflow_add-first c = let h = here c in omega (arith, h.few, h.first-low)

pub load-a-requires : goal.load-a-requires
load-a-requires c = (here c).first

here-2 : (c : goal.After-load-a) → Fits c.loop-k.rows c.args.op c.args.base c.args.s (c.loop-k.k - 1)
here-2 c = passed-fits c.args.s c.loop-k.k c.requires.temporal.1 c.requires.placed (omega arith) (omega arith) c.loop-k.invariant

pub overflow_mul-second : goal.overflow_mul-second
overflow_mul-second c = let h = here-2 c in omega (arith, h.second-low)

pub overflow_add-second : goal.overflow_add-second
overflow_add-second c = let h = here-2 c in omega (arith, h.few, h.second-low)

pub load-b-requires : goal.load-b-requires
load-b-requires c = (here-2 c).second

pub step-r-requires : goal.step-r-requires
step-r-requires c = record { temporal_kind = c.requires.temporal.0; c_bound = c.loop-k.invariant.digit_lt }

here-3 : (c : goal.After-step-r) → Fits c.loop-k.rows c.args.op c.args.base c.args.s (c.loop-k.k - 1)
here-3 c = passed-fits c.args.s c.loop-k.k c.requires.temporal.1 c.requires.placed (omega arith) (omega arith) c.loop-k.invariant

pub first_of-c-requires : goal.first_of-c-requires
first_of-c-requires c = let p = (here-3 c).place in (p.some, p.most)

here-4 : (c : goal.After-first_of-c) → Fits c.loop-k.rows c.args.op c.args.base c.args.s (c.loop-k.k - 1)
here-4 c = passed-fits c.args.s c.loop-k.k c.requires.temporal.1 c.requires.placed (omega arith) (omega arith) c.loop-k.invariant

pub overflow_mul-base : goal.overflow_mul-base
overflow_mul-base c = let h = here-4 c in omega (arith, h.low)

pub overflow_add-base : goal.overflow_add-base
overflow_add-base c = let h = here-4 c in omega (arith, h.few, h.low)

pub get_bit-was-requires : goal.get_bit-was-requires
get_bit-was-requires c = let h = here-4 c in omega (arith, h.target.inside, h.place.some)

here-5 : (c : goal.After-store-arg-1) → Fits c.loop-k.rows c.args.op c.args.base c.args.s (c.loop-k.k - 1)
here-5 c = passed-fits c.args.s c.loop-k.k c.requires.temporal.1 c.requires.placed (omega arith) (omega arith) c.loop-k.invariant

pub overflow_mul-base-in-loop-k : goal.overflow_mul-base-in-loop-k
overflow_mul-base-in-loop-k c = let h = here-5 c in omega (arith, h.low)

pub overflow_add-base-in-loop-k : goal.overflow_add-base-in-loop-k
overflow_add-base-in-loop-k c = let h = here-5 c in omega (arith, h.few, h.low)

pub store-requires : goal.store-requires
store-requires c = (passed-fits c.args.s c.loop-k.k c.requires.temporal.1 c.requires.placed (omega arith) (omega arith) c.loop-k.invariant).target

here-6 : (c : goal.Then-c-was) → Fits c.loop-k.rows c.args.op c.args.base c.args.s (c.loop-k.k - 1)
here-6 c = passed-fits c.args.s c.loop-k.k c.requires.temporal.1 c.requires.placed (omega arith) (omega arith) c.loop-k.invariant

pub overflow_mul-base-then-c-was : goal.overflow_mul-base-then-c-was
overflow_mul-base-then-c-was c = let h = here-6 c in omega (arith, h.low)

pub overflow_add-base-then-c-was : goal.overflow_add-base-then-c-was
overflow_add-base-then-c-was c = let h = here-6 c in omega (arith, h.few, h.low, h.place.some, h.place.last)

pub get_bit-requires : goal.get_bit-requires
get_bit-requires c = let h = here-6 c in omega (arith, h.target.inside, h.place.some, c.store.ensures.size)

pub shape_of-rows-then-c-was : goal.shape_of-rows-then-c-was
shape_of-rows-then-c-was c = c.store.ensures.size ∙ c.loop-k.invariant.part.kept.size

pub returns-then-c-was : goal.returns-then-c-was
returns-then-c-was c =
    let s = c.args.s in
    let on = passed_on s.from s.size s.count c.loop-k.k c.args.v c.requires.temporal.1 c.requires.placed (omega arith) (omega arith) c.loop-k.invariant
    c.step-r.ensures c.load-a.ensures c.load-b.ensures c.first_of-c.ensures c.store.ensures in
    let held = c.requires.held c.if-filled.true in
    let n = s.from + s.size * s.count in
    let at = s.from + s.size * (c.loop-k.k - 1) in
    let back = place-back s.from s.size s.count c.loop-k.k c.requires.temporal.1 (omega arith) (omega arith) in
    let p = (passed-fits s c.loop-k.k c.requires.temporal.1 c.requires.placed (omega arith) (omega arith) c.loop-k.invariant).place in
    let inner : at < n = omega (arith, p.some, p.last) in
    let stood = c.loop-k.invariant.part.other at (inl (omega (arith, back.0, p.some))) in
    let whole = settled c.args.v n s.from at (omega arith) inner held (sym on.value ∙ same_bit _ _ c.if-c-was.true ∙ c.get_bit-was.ensures ∙ stood ∙ held.row at (omega arith) inner)
    on.part in
    record { value = c.get_bit.ensures ∙ whole.here s.from (omega arith) (omega (arith, inner)); part = whole }

pub loop-k-preserved : goal.loop-k-preserved
loop-k-preserved c =
    passed_on c.args.s.from c.args.s.size c.args.s.count c.loop-k.k c.args.v c.requires.temporal.1 c.requires.placed (omega arith) (omega arith) c.loop-k.invariant
    c.step-r.ensures c.load-a.ensures c.load-b.ensures c.first_of-c.ensures c.store.ensures

pub shape_of-rows : goal.shape_of-rows
shape_of-rows c = c.loop-k.invariant.part.kept.size

pub returns : goal.returns
returns c = passed-whole c.args.s c.loop-k.k (omega arith) c.loop-k.invariant
