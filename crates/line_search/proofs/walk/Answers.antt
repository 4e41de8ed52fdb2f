use mathlib.Core.Path.{refl, sym, ap, ◌∙◌}
use native.Mathlib.Omega.{arith}
use Rattle.line_search.specs.Walking.{walked}
use Rattle.line_search.specs.WalkingLaws.{walked_step, walked_end}
use Rattle.line_search.proofs.walk.Goals as goal

pub loop-left-init : goal.loop-left-init
loop-left-init c = refl

pub loop-left-preserved : goal.loop-left-preserved
loop-left-preserved c =
    c.loop-left.invariant ∙ walked_step _ c.loop-left.rest c.loop-left._left c.loop-left.i (omega arith) ∙ ap (walked _ _ _) (sym c.operand-i.ensures)

pub returns : goal.returns
returns c = sym (c.loop-left.invariant ∙ walked_end _ _ c.loop-left._left _ (omega arith))
