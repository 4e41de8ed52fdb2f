-- `judge_start` meets its contract: a recording judged whole, or one that is too long.
use Rattle.judging.specs.LongerLaws.{start-whole, start_longer}
use Rattle.judging.proofs.judge_start.Goals as goal

pub returns-then-start-le-LONGEST : goal.returns-then-start-le-LONGEST
returns-then-start-le-LONGEST c = start-whole _ c.judge_text-found.ensures c.if-start-le-LONGEST.true

pub returns : goal.returns
returns c = start_longer _ c.judge_text-found.ensures c.if-start-le-LONGEST.false c.moved.ensures
