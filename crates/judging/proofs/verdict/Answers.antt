-- `verdict` meets its contract: there is room for every row.
use mathlib.Core.Path.{◌∙◌}
use native.Mathlib.Omega.{arith}
use Rattle.judging.specs.RoomLaws.{verdict_enough}
use Rattle.judging.proofs.verdict.Goals as goal

pub returns : goal.returns
returns c = c.judge.ensures.answer ∙ verdict_enough _ _ _ _ (omega (arith, c.room-rows.ensures))
