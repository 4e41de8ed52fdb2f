use Prim.Native.Nat.{◌+◌}
use mathlib.Core.Path.{refl, ap, ◌∙◌, sym}
use mathlib.Core.Bool.{◌&&◌, and_assoc, and-true}
use native.Mathlib.Omega.{arith}
use lib.ListN.{drop}
use Rattle.node.specs.Formed.{all_fit}
use Rattle.node.proofs.TableLaws.{all-step, all_end}
use Rattle.node.proofs.all_fit.Goals as goal

pub loop-i-init : goal.loop-i-init
loop-i-init c = (omega arith, refl)

pub loop-i-preserved : goal.loop-i-preserved
loop-i-preserved c =
    let a = c.args in
    let rest = all_fit a.limit (c.loop-i.i + 1) (drop (c.loop-i.i + 1) a.nodes.now) in
    let step = all-step a.limit a.nodes.now c.loop-i.i (omega arith) ∙ ap (λ t. t && rest) (sym c.node_fits-fit.ensures) in
    (omega arith, c.loop-i.invariant.1 ∙ ap (λ t. c.loop-i.fit && t) step ∙ sym (and_assoc c.loop-i.fit c.node_fits-fit.result rest))

pub returns : goal.returns
returns c =
    let a = c.args in
    sym (c.loop-i.invariant.1 ∙ ap (λ t. c.loop-i.fit && t) (all_end a.limit a.nodes.now c.loop-i.i c.loop-i-test.false) ∙ and-true c.loop-i.fit)
