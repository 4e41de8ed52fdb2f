-- `count_lines` meets its contract.
use native.Mathlib.Omega.{arith}
use Rattle.line_counts.specs.CountingLaws.{counts, counts_none}
use Rattle.line_counts.proofs.count_lines.Goals as goal

pub returns-then-count-gt-MAX_NODES : goal.returns-then-count-gt-MAX_NODES
returns-then-count-gt-MAX_NODES c = counts_none _ (omega (arith, c.if-count-gt-MAX_NODES.true))

pub returns : goal.returns
returns c = counts c.lines_in.ensures c.lines_in-2.ensures c.lines_in-3.ensures
