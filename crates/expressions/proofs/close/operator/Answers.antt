-- `expressions::close::operator` meets its contract.
use borrow.Author.Rules.{rules}
use native.Mathlib.Omega.{arith}
use Rattle.expressions.proofs.close.operator.Goals as goal

pub get-requires : goal.get-requires
get-requires c = omega (arith, c.requires)

pub returns : goal.returns
returns c = rw c.get.ensures (search rules)
