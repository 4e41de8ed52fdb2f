-- `lexer::sizes::leading` meets its contract: each byte passed is within.
use Rattle.std.specs.Prelude.{ℕ, Bool}
use Rattle.lexer.specs.Scanning.{Tests}
use Rattle.lexer.proofs.SizeLaws.{Running}
use Rattle.lexer.proofs.sizes.leading.Given as goal

abbrev pub invariant-loop-i : goal.invariant-loop-i
invariant-loop-i g l = (p : ℕ → Bool) → Tests p (goal.F-post g l.within) → Running p l.rest l.i
