use mathlib.Core.Path.{refl, ◌∙◌}
use native.Mathlib.Omega.{arith}
use Rattle.names.proofs.MeetingLaws.{met_none, met_at}
use Rattle.names.proofs.declare.declare.Goals as goal

pub loop-k-init : goal.loop-k-init
loop-k-init c = (refl, λ h s. met_none h _ c.requires.1 _ refl s)

pub declare_one-place-requires : goal.declare_one-place-requires
declare_one-place-requires c =
    (c.requires.0, omega arith, c.requires.1, let e = c.loop-k.invariant.0 in let r = c.requires.2 in omega arith)

pub loop-k-preserved : goal.loop-k-preserved
loop-k-preserved c = (
  c.declare_one-place.auto.table ∙ c.loop-k.invariant.0,
  λ h s. c.declare_one-place.ensures h
      (met_at (c.loop-k.invariant.1 h s) (omega arith)),
)

pub returns : goal.returns
returns c = λ h s. met_at (c.loop-k.invariant.1 h s) (omega arith)
