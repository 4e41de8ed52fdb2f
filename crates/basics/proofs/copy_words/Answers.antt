use mathlib.Core.Path.{◌≡◌, refl, ap, ◌∙◌}
use native.Mathlib.Omega.{arith}
use lib.ListN.{set, length-set, get_or}
use lib.Seq.{paste, paste-zero}
use Rattle.basics.specs.Copying.{copied_more}
use Rattle.basics.proofs.copy_words.Goals as goal

pub loop-i-init : goal.loop-i-init
loop-i-init c = (omega arith, (refl, paste-zero c.args.out.now 0 c.args.from.now))

pub loop-i-preserved : goal.loop-i-preserved
loop-i-preserved c =
    let out = c.args.out.now in
    let from = c.args.from.now in (
      omega arith,
      (
        simp length-set c.loop-i.invariant.1.0,
        ap (λ x. set x c.loop-i.i (get_or from c.loop-i.i 0)) c.loop-i.invariant.1.1 ∙ copied_more out from c.loop-i.i (omega arith) (omega arith),
      ),
    )

pub returns : goal.returns
returns c =
    let e : c.loop-i.i ≡ c.args.n = omega arith in
    c.loop-i.invariant.1.1 ∙ ap (paste c.args.out.now 0 c.args.from.now) e
