use native.Mathlib.Omega.{arith}
use mathlib.Core.Path.{refl, sym, ◌∙◌}
use Rattle.choices.specs.PromiseLaws.{matched_none, matched-star, matched-literal, matched_all}
use Rattle.choices.proofs.matches.Goals as goal

pub loop-i-init : goal.loop-i-init
loop-i-init c = (omega arith, matched_none _ _ _ _ _)

pub loop-i-preserved-then-starred : goal.loop-i-preserved-then-starred
loop-i-preserved-then-starred c =
    (omega arith, matched-star c.loop-i.invariant.1 c.byte_at-mark.ensures (sym c.starred.ensures ∙ c.if-starred.true))

pub loop-i-preserved : goal.loop-i-preserved
loop-i-preserved c = (
  omega arith,
  matched-literal c.loop-i.invariant.1 c.byte_at-mark.ensures (sym c.starred.ensures ∙ c.if-starred.false) c.literal-r.ensures
      c.further-f.ensures,
)

pub returns : goal.returns
returns c = matched_all c.loop-i.invariant.1 refl (omega arith) c.finish.ensures
