-- `lexer::search::find` meets its contract: no entry before k fits.
use Prim.Native.Nat.{◌-◌}
use Rattle.lexer.specs.Spelling.{count}
use Rattle.lexer.proofs.SearchLaws.{Finding}
use Rattle.lexer.proofs.search.find.Given as goal

abbrev pub invariant-loop-k : goal.invariant-loop-k
invariant-loop-k l = Finding l.text l.at l.size l.k

abbrev pub decreases-loop-k : goal.decreases-loop-k
decreases-loop-k l = count - l.k
