-- `lexer::sizes::comment_size` meets its contract: the nesting so far is that of the bytes passed.
use Rattle.lexer.proofs.SizeLaws.{Commenting}
use Rattle.lexer.proofs.sizes.comment_size.Given as goal

abbrev pub invariant-loop-i : goal.invariant-loop-i
invariant-loop-i l = Commenting l.rest l.i l.nest
