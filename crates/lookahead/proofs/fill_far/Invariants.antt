-- `fill_far` meets its contract: before node i the nodes below i have their numbers.
use Prim.Native.Nat.{◌≤◌, ◌<◌}
use lib.ListN.{length}
use Rattle.lookahead.specs.Codes.{near_count, Spanned}
use Rattle.lookahead.proofs.fill_far.Given as goal

abbrev pub invariant-loop-i : goal.invariant-loop-i
invariant-loop-i l = (l.i < length l.nodes → near_count ≤ l.i) × Spanned l.nodes l.i l.near l.far
