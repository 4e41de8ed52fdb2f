-- `finish` meets its contract: 15, and what is handed over, converted where the models differ.
use mathlib.Core.Path.{refl, sym}
use lib.Seq.{length-take-le}
use Rattle.node.proofs.ReturnedLaws.{raised}
use Rattle.ending.proofs.FinishingLaws.{finish_many, finish-few, finish-shifted, finish_gathering, finish-listed}
use Rattle.ending.proofs.finish.Goals as goal

pub returns-in_err-n : goal.returns-in_err-n
returns-in_err-n c = λ x d g. rw (raised c.from_residual.ensures) (finish_many g _ _ c.in_err-n.was)

pub slice_bounds-hand_over-end : goal.slice_bounds-hand_over-end
slice_bounds-hand_over-end c =
    sym (length-take-le _ _ (finish-listed c.requires c.in_ok-n.was))

pub hand_over-requires : goal.hand_over-requires
hand_over-requires c =
    finish_gathering c.requires c.in_ok-n.was

pub returns-then-facts : goal.returns-then-facts
returns-then-facts c =
    λ x d g. finish-few g _ _ c.in_ok-n.was c.if-facts.true c.hand_over.ensures

pub slice_bounds-hand_over_shifted-end : goal.slice_bounds-hand_over_shifted-end
slice_bounds-hand_over_shifted-end c =
    sym (length-take-le _ _ (finish-listed c.requires c.in_ok-n.was))

pub hand_over_shifted-requires : goal.hand_over_shifted-requires
hand_over_shifted-requires c =
    finish_gathering c.requires c.in_ok-n.was

pub returns : goal.returns
returns c =
    λ x d g. finish-shifted g _ _ c.in_ok-n.was c.if-facts.false refl c.hand_over_shifted.ensures
