use Prim.Native.Nat.{suc, ◌+◌, ◌-◌}
use mathlib.Core.Path.{◌≡◌}
use native.Mathlib.Omega.{arith}
use Rattle.writing.specs.Windows.{place}
use Rattle.writing.specs.WindowLaws.{place-back, linked_none, linked_more}
use Rattle.writing.proofs.window.link.Goals as goal

pub overflow_sub-first : goal.overflow_sub-first
overflow_sub-first c = let b = place-back c.args.from c.args.size (suc c.args.n) (omega arith) in omega arith

pub loop-i-init : goal.loop-i-init
loop-i-init c =
    let b = place-back c.args.from c.args.size (suc c.args.n) (omega arith) in
    let same : suc c.args.n - 1 ≡ c.args.n = omega arith in
    let p : place c.args.from c.args.size (suc c.args.n) ≡ place c.args.from c.args.size c.args.n + c.args.size = rw same at b in
    let whole : c.args.n - 0 ≡ c.args.n = omega arith in
    rw whole (omega arith, linked_none c.args.op c.args.next c.args.n c.args.from c.args.size c.requires.1.0)

pub overflow_sub-first-in-loop-i : goal.overflow_sub-first-in-loop-i
overflow_sub-first-in-loop-i c =
    omega (arith, place-back c.args.from c.args.size (c.args.n - c.loop-i.i) (omega arith))

pub loop-i-preserved : goal.loop-i-preserved
loop-i-preserved c =
    let n = c.args.n in
    let j = n - c.loop-i.i in
    let k = n - (c.loop-i.i + 1) in
    let less : j - 1 ≡ k = omega arith in
    let b = rw less at (place-back c.args.from c.args.size j (omega arith)) in (
      omega arith,
      linked_more c.args.op c.args.next n k j c.args.from c.args.size (omega arith) (omega arith) c.loop-i.invariant.0 c.loop-i.invariant.1 c.cap-later.ensures c.join-r.ensures,
    )

pub returns : goal.returns
returns c = let e : c.args.n - c.loop-i.i ≡ 0 = omega arith in rw e at c.loop-i.invariant.1
