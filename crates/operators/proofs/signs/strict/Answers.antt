-- `operators::signs::strict` meets its contract, by the two numbers.
use mathlib.Core.Path.{sym, ap}
use Rattle.operators.specs.Signs.{strict_at}
use Rattle.operators.specs.SignLaws.{strict-second}
use Rattle.operators.proofs.signs.strict.Goals as goal

pub returns-then-number-eq-LESS : goal.returns-then-number-eq-LESS
returns-then-number-eq-LESS c = sym (ap strict_at c.if-number-eq-LESS.true)

pub returns : goal.returns
returns c = strict-second c.args.number c.if-number-eq-LESS.false
