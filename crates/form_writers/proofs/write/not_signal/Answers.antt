-- `not_signal` meets its contract: the operand is stored, then the `!`.
use mathlib.Core.Path.{refl}
use native.Mathlib.Omega.{arith}
use Rattle.node.specs.Ltl.{Not, Signal}
use Rattle.storing.specs.StoringLaws.{unary_full, unary-wrote, end}
use Rattle.form_writers.proofs.write.not_signal.Goals as goal

pub returns-in_err-m : goal.returns-in_err-m
returns-in_err-m c = unary_full Not (Signal _) c.in_err-m.was c.from_residual.ensures c.signal.ensures

pub cap-requires : goal.cap-requires
cap-requires c = end 3 (Signal _) (omega arith) c.requires.1 (c.signal.ensures.stored _ c.in_ok-m.was)

pub returns : goal.returns
returns c = unary-wrote Not (Signal _) (c.signal.ensures.stored _ c.in_ok-m.was) refl c.cap.ensures
