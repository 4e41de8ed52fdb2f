-- `lexer::search::fits` meets its contract: the first j bytes of the entry are those of the text.
use Rattle.lexer.specs.Spelling.{entry}
use Rattle.lexer.proofs.SearchLaws.{Comparing}
use Rattle.lexer.proofs.search.fits.Given as goal

abbrev pub invariant-loop-j : goal.invariant-loop-j
invariant-loop-j l = Comparing (entry l.k) l.text l.at l.j
