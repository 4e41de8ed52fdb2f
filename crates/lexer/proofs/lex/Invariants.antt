-- `lexer::lex` meets its contract: the tokens met so far and those of the rest are the tokens of the text.
use Prim.Native.Nat.{◌-◌}
use lib.ListN.{length}
use Rattle.lexer.proofs.RunLaws.{Run}
use Rattle.lexer.proofs.lex.Given as goal

abbrev pub invariant-loop-at : goal.invariant-loop-at
invariant-loop-at l = Run l.text l.initial.work l.work l.at l.n l.enumerating l.over

abbrev pub decreases-loop-at : goal.decreases-loop-at
decreases-loop-at l = length l.text - l.at
