-- `place_told` meets its contract: one law for each way.
use native.Mathlib.Omega.{arith}
use Rattle.judging.specs.LongerLaws.{place_other, place_header, place-length}
use Rattle.judging.proofs.place_told.Goals as goal

pub returns-then-number-ne-BAD_RECORDING : goal.returns-then-number-ne-BAD_RECORDING
returns-then-number-ne-BAD_RECORDING c = place_other _ _ _ c.if-number-ne-BAD_RECORDING.true

pub returns-then-place-eq0 : goal.returns-then-place-eq0
returns-then-place-eq0 c = let a = c.args in place_header a.size a.number a.place c.if-place-eq0.true

pub returns : goal.returns
returns c = let a = c.args in place-length a.size a.number a.place c.if-number-ne-BAD_RECORDING.false (omega arith)
