-- Too deep, or nowhere: each way through the definition.
use mathlib.Core.Path.{sym, ap}
use Rattle.traversal.specs.Places.{placed}
use Rattle.depth.specs.LevelLaws.{fault-inside, fault_shallow, fault-deep}
use Rattle.depth.proofs.fault_of.Goals as goal

pub returns-then-kind-lt-LINES : goal.returns-then-kind-lt-LINES
unfolding placed
returns-then-kind-lt-LINES c = sym (ap placed (fault-inside _ c.args.level c.args.start c.if-kind-lt-LINES.true))

pub returns-then-level-le-MAX_LEVELS : goal.returns-then-level-le-MAX_LEVELS
unfolding placed
returns-then-level-le-MAX_LEVELS c = sym (ap placed (fault_shallow _ _ c.args.start c.if-kind-lt-LINES.false c.if-level-le-MAX_LEVELS.true))

pub returns : goal.returns
unfolding placed
returns c = sym (ap placed (fault-deep _ _ c.args.start c.if-kind-lt-LINES.false c.if-level-le-MAX_LEVELS.false))
