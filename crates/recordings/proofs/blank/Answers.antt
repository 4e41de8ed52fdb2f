use Rattle.recordings.specs.RecordingLaws.{blank-stop, blank_on, blank-end}
use mathlib.Core.Path.{refl, sym, ◌∙◌}
use native.Mathlib.Omega.{arith}
use Rattle.recordings.proofs.blank.Goals as goal

pub loop-i-init : goal.loop-i-init
loop-i-init c = refl

pub returns-then-get_bit : goal.returns-then-get_bit
returns-then-get_bit c = sym (c.loop-i.invariant ∙ blank-stop _ c.loop-i.i _ (omega arith) (sym c.get_bit.ensures ∙ c.if-get_bit.true))

pub loop-i-preserved : goal.loop-i-preserved
loop-i-preserved c = c.loop-i.invariant ∙ blank_on _ c.loop-i.i _ (omega arith) (sym c.get_bit.ensures ∙ c.if-get_bit.false)

pub returns : goal.returns
returns c = sym (c.loop-i.invariant ∙ blank-end _ c.loop-i.i _ (omega arith))
