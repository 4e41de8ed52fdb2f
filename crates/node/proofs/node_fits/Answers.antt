-- `node_fits` meets its contract: the bounds of its kind decide of a node.
use mathlib.Core.Path.{ap, ap₂, ◌∙◌}
use mathlib.Core.Bool.{cond, ◌&&◌}
use lib.Dec.{ltb}
use Rattle.node.specs.Ltl.{Not}
use Rattle.node.specs.Kinds.{signal_kind, unary_kind}
use Rattle.node.proofs.Bounds.{word_fits}
use Rattle.node.proofs.node_fits.Goals as goal

pub returns : goal.returns
returns c =
    let k = c.kind-k.result in
    let n = c.args.n in
    let e = c.either-first_end.ensures ∙ ap (cond (ltb k signal_kind) 1) (c.either-number.ensures ∙ ap (cond (ltb k (unary_kind Not)) _) c.either-operand.ensures) in
    ap₂ (λ x y. ltb c.first-a.result x && ltb c.second-b.result y) e (c.either-second_end.ensures ∙ ap (λ t. cond t n 1) c.has_two.ensures)
    ∙ word_fits _ _ _ k _ _ c.kind-k.ensures c.first-a.ensures c.second-b.ensures
