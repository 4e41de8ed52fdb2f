use Prim.Native.Nat.{suc}
use mathlib.Core.Path.{◌≡◌, sym}
use native.Mathlib.Numerals.{add-one}
use native.Mathlib.Omega.{arith}
use Rattle.writing.specs.WindowLaws.{place-one, place-from, place_mono, layered_none, layered_more}
use Rattle.writing.proofs.window.layer.Goals as goal

pub overflow_add-at : goal.overflow_add-at
overflow_add-at c = omega (arith, place-from c.args.from c.args.size c.args.n)

pub loop-i-init : goal.loop-i-init
loop-i-init c = (
  place-one c.args.from c.args.size,
  layered_none c.args.from c.args.size (omega (arith, place-from c.args.from c.args.size c.args.n)),
)

pub copy-at-requires : goal.copy-at-requires
copy-at-requires c =
    let first = place-from c.args.from c.args.size c.loop-i.i in
    let all = place-from c.args.from c.args.size c.args.n in
    (omega arith, omega arith)

pub loop-i-preserved : goal.loop-i-preserved
loop-i-preserved c =
    let room = place_mono c.args.from c.args.size {i = suc (suc c.loop-i.i)} {n = suc c.args.n} (omega arith) in
    let m = layered_more c.loop-i.i c.args.from c.args.size c.loop-i.invariant.1 c.loop-i.invariant.0 (omega arith) c.copy-at.ensures in
    rw add-one m

pub returns : goal.returns
returns c = let e : c.loop-i.i ≡ c.args.n = omega arith in rw (sym e) c.loop-i.invariant.1
