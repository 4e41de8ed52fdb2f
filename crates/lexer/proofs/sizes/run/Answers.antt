-- `lexer::sizes::run` meets its contract: the class of each byte passed is within.
use Rattle.std.proofs.Common.{rules}
use Rattle.lexer.specs.Tables.{classed}
use Rattle.lexer.proofs.sizes.run.Goals as goal

pub returns : goal.returns
unfolding classed
returns c = c.leading.ensures (classed c.args.bytes.now c.args.low c.args.high) (λ b r l p. search rules)
