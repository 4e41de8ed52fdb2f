use Prim.Native.Nat.{◌+◌}
use mathlib.Core.Path.{◌≡◌, refl, ap, ◌∙◌}
use native.Mathlib.Omega.{arith}
use lib.ListN.{set, length-set, get_or}
use lib.Seq.{sets}
use Rattle.signal_names.specs.Runs.{part_length, puts_more}
use Rattle.signal_names.specs.Promise.{part}
use Rattle.signal_names.proofs.put_bytes.Goals as goal

pub loop-i-init : goal.loop-i-init
loop-i-init c = (omega arith, (refl, refl))

pub loop-i-preserved : goal.loop-i-preserved
loop-i-preserved c =
    let a = c.args in
    let step = puts_more a.from.now a.out.now a.start a.at c.loop-i.i (omega arith) in
    (omega arith, (simp length-set c.loop-i.invariant.1.0, ap (λ x. set x (a.at + c.loop-i.i) (get_or a.from.now (a.start + c.loop-i.i) 0)) c.loop-i.invariant.1.1 ∙ step))

pub returns : goal.returns
returns c =
    let a = c.args in
    let e : c.loop-i.i ≡ a.n = omega arith in
    record { next = omega (arith, part_length a.from.now a.start a.n (omega arith)); bytes = c.loop-i.invariant.1.1 ∙ ap (λ k. sets a.out.now a.at (part a.from.now a.start k)) e }
