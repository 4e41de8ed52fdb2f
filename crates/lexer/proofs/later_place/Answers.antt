-- `lexer::later_place` meets its contract, by cases on the number of tokens.
use borrow.Author.Tests.{eq-eqb, ne_eqb}
use Rattle.language.specs.Limits.{max_tokens}
use Rattle.lexer.proofs.later_place.Goals as goal

pub returns-then-n-eq-MAX_TOKENS : goal.returns-then-n-eq-MAX_TOKENS
returns-then-n-eq-MAX_TOKENS c = rw (eq-eqb c.args.n max_tokens c.if-n-eq-MAX_TOKENS.true)

pub returns : goal.returns
returns c = rw (ne_eqb c.args.n max_tokens c.if-n-eq-MAX_TOKENS.false)
