use Prim.Native.Nat.{◌+◌, ◌*◌}
use mathlib.Core.Path.{◌≡◌, sym, ap}
use native.Mathlib.Omega.{arith}
use Rattle.bits.specs.SpanLaws.{span_as}
use Rattle.rows.specs.MemoryLaws.{part_none, part_to}
use Rattle.rows.specs.Ready.{op_row}
use Rattle.rows.specs.ReadyLaws.{operands, same_row, ready-still}
use Rattle.rows.specs.StretchesLaws.{place, part_up}
use Rattle.rows.specs.PlainLaws.{Lies, lies}
use Rattle.rows.proofs.plain.plain_spans.Goals as goal

pub loop-k-init : goal.loop-k-init
loop-k-init c =
    let s = c.args.s in
    let e : s.from ≡ s.from + s.size * 0 = omega arith in
    part_to e (part_none _ _ _ _ _)

here : (c : goal.In-loop-k) → let loop = c.loop-k in
    let s = c.args.s in
    Lies loop.rows c.args.lasso c.args.base (s.from + s.size * loop.k) s.size
here c =
    lies c.loop-k.k (ready-still c.requires.ready c.loop-k.invariant.kept) c.requires.plain.1 (omega arith)

pub overflow_mul-p : goal.overflow_mul-p
overflow_mul-p c =
    let h = here c in omega (arith, h.spot.fits, h.spot.few)

pub overflow_add-p : goal.overflow_add-p
overflow_add-p c =
    let h = here c in omega (arith, h.spot.fits, h.spot.few)

here-2 : (c : goal.In-loop-k) → let loop = c.loop-k in
    let s = c.args.s in
    Lies loop.rows c.args.lasso c.args.base (s.from + s.size * loop.k) s.size
here-2 c =
    lies c.loop-k.k (ready-still c.requires.ready c.loop-k.invariant.kept) c.requires.plain.1 (omega arith)

pub span_value-v-requires : goal.span_value-v-requires
span_value-v-requires c =
    let loop = c.loop-k in
    record { operands = operands (ready-still c.requires.ready loop.invariant.kept); plain = (c.requires.plain.0, (here-2 c).spot) }

here-3 : (c : goal.After-store-arg-1) → let loop = c.loop-k in
    let s = c.args.s in
    Lies loop.rows c.args.lasso c.args.base (s.from + s.size * loop.k) s.size
here-3 c =
    lies c.loop-k.k (ready-still c.requires.ready c.loop-k.invariant.kept) c.requires.plain.1 (omega arith)

pub overflow_mul-base : goal.overflow_mul-base
overflow_mul-base c =
    let h = here-3 c in omega (arith, h.low)

pub overflow_add-base : goal.overflow_add-base
overflow_add-base c =
    let h = here-3 c in omega (arith, h.low, h.spot.fits, h.spot.few)

pub store-requires : goal.store-requires
store-requires c =
    (here-3 c).target

here-4 : (c : goal.After-slice_known-in-loop-k-1) → let loop = c.loop-k in
    let s = c.args.s in
    Lies loop.rows c.args.lasso c.args.base (s.from + s.size * loop.k) s.size
here-4 c =
    lies c.loop-k.k (ready-still c.requires.ready c.loop-k.invariant.kept) c.requires.plain.1 (omega arith)

pub loop-k-preserved : goal.loop-k-preserved
loop-k-preserved c =
    let span_value = c.span_value-v in
    let store = c.store in
    let s = c.args.s in
    let loop = c.loop-k in
    let kept = loop.invariant.kept in
    let next = place s.from s.size s.count loop.k c.requires.plain.1.regular (omega arith) in
    let at = s.from + s.size * loop.k in
    let spot = (here-4 c).spot in
    let v = span_as span_value.ensures (λ q a b. same_row c.requires.ready kept q (omega (arith, b, spot.fits))) in
    let more = part_up c.args.lasso.n c.args.base (op_row c.args.recording.now c.args.rows.now c.args.lasso c.args.op) at s.size _
    spot.fits v store.ensures (omega arith) loop.invariant in
    part_to (sym next.next) more

pub shape_of-rows : goal.shape_of-rows
shape_of-rows c =
    c.loop-k.invariant.kept.size

pub returns : goal.returns
returns c =
    let s = c.args.s in
    let loop = c.loop-k in
    let e : s.from + s.size * loop.k ≡ s.from + s.size * s.count = (let z : loop.k ≡ s.count = omega arith in ap (λ x. s.from + s.size * x) z) in
    part_to e loop.invariant
