-- The first formula, or one joined to those before it.
use mathlib.Core.Path.{◌≡◌, sym, ap, ◌∙◌}
use Rattle.node.specs.Kinds.{binary_kind}
use Rattle.choices.specs.FoldLaws.{operator, furthers_first, furthers_more}
use Rattle.choices.proofs.folds.further.Goals as goal
use Rattle.choices.proofs.folds.further.Goals.{then-all, else-all}

pub returns-then-f : goal.returns-then-f
returns-then-f c =
    let kind : c.if-all.operator ≡ binary_kind (operator c.args.all) = elim c.if-all.branch [
      | then-all w ↦ w.operator-is ∙ sym (ap (λ b. binary_kind (operator b)) w.if-all.true)
      | else-all w ↦ w.operator-is ∙ sym (ap (λ b. binary_kind (operator b)) w.if-all.false)
    ] in
    furthers_more _ _ _ _ _ c.if-f.true kind c.join-end.ensures

pub returns : goal.returns
returns c = furthers_first _ _ c.if-f.false
