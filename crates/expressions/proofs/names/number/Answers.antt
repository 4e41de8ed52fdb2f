-- `expressions::names::number` meets its contract.
use borrow.Author.Rules.{rules}
use native.Mathlib.Omega.{arith}
use Rattle.expressions.proofs.names.number.Goals as goal

pub get-requires : goal.get-requires
get-requires c = omega (arith, c.requires.0, c.requires.1)

pub returns : goal.returns
returns c = rw c.get.ensures (search rules)
