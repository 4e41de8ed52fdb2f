-- `is_output` meets its contract: a number past the list reads as an entry of 0.
use native.Mathlib.Omega.{arith}
use Rattle.shifting.specs.NodeLaws.{output_past}
use Rattle.shifting.proofs.is_output.Goals as goal

pub returns : goal.returns
returns c = output_past c.args.list.now c.args.k (omega (arith, c.if-k-list.false))
