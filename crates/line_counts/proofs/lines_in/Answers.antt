use native.Mathlib.Numerals.{add-one}
use native.Mathlib.Omega.{arith}
use Rattle.line_counts.specs.CountingLaws.{one_few, counting_none, counting_more}
use Rattle.line_counts.proofs.lines_in.Goals as goal

pub loop-word-init : goal.loop-word-init
loop-word-init c = (omega arith, counting_none _ _)

pub loop-word-preserved : goal.loop-word-preserved
loop-word-preserved c =
    (omega (arith, one_few _ _ c.is_in-n.ensures), rw add-one (counting_more (omega arith) c.loop-word.invariant.1 c.is_in-n.ensures))
