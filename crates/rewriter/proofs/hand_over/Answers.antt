-- `hand_over` meets its contract: a short buffer is left, otherwise the words are copied.
use mathlib.Core.Path.{refl}
use native.Mathlib.Omega.{arith}
use Rattle.rewriter.proofs.hand_over.Goals as goal

pub returns-then-out-n : goal.returns-then-out-n
returns-then-out-n c = let h = c.if-out-n.true in record { short = λ l. (refl, refl); copied = λ l. absurd (omega arith) }

pub returns : goal.returns
returns c =
    let h = c.if-out-n.false in record { short = λ l. absurd (omega arith); copied = λ l. (refl, c.copy_words.ensures) }
