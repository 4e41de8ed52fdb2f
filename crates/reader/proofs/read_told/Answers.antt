-- `read_told` meets its contract: 17, or the answer on the text with the work buffer cleared.
use native.Mathlib.Omega.{arith}
use Rattle.reader.specs.TellingLaws.{told_short, told_long}
use Rattle.reader.proofs.read_told.Goals as goal

pub returns-then-work-lt-WORK_BYTES : goal.returns-then-work-lt-WORK_BYTES
returns-then-work-lt-WORK_BYTES c =
    told_short _ (omega (arith, c.if-work-lt-WORK_BYTES.true)) c.untold.ensures

pub returns : goal.returns
returns c =
    told_long _ (omega (arith, c.if-work-lt-WORK_BYTES.false)) c.answer-told.ensures c.clear.ensures
