-- `fill` meets its contract: before node i the rows of the nodes below i are right.
use Prim.Native.Nat.{suc}
use mathlib.Core.Path.{◌≡◌}
use lib.ListN.{length}
use Rattle.node.specs.Limits.{max_signals}
use Rattle.evaluator.specs.Evaluated.{Evaluated}
use Rattle.evaluator.proofs.fill.Given as goal

abbrev pub invariant-loop-i : goal.invariant-loop-i
invariant-loop-i l = (length l.seen ≡ suc max_signals) × Evaluated l.recording l.lasso l.nodes l.i l.initial.rows l.rows
