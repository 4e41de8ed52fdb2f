-- `number` meets its contract: past the table there is no number.
use native.Mathlib.Omega.{arith}
use Rattle.shifting.specs.NodeLaws.{number_past}
use Rattle.shifting.proofs.number.Goals as goal

pub returns : goal.returns
returns c = number_past c.args.numbers.now c.args.k (omega (arith, c.requires, c.if-i-lt-MAX_NODES.false))
