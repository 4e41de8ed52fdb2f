-- `fill_near` meets its contract: before node i the nodes below i have their numbers.
use Rattle.lookahead.specs.Codes.{Spanned}
use Rattle.lookahead.proofs.fill_near.Given as goal

abbrev pub invariant-loop-i : goal.invariant-loop-i
invariant-loop-i l = Spanned l.nodes l.i l.near l.far
