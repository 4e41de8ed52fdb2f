-- `paired` meets its contract: an operator of two operands has its own second.
use mathlib.Core.Path.{refl}
use native.Mathlib.Omega.{arith}
use Rattle.rows.specs.ReadyLaws.{pair_two}
use Rattle.rows.proofs.paired.Goals as goal

pub returns-in-3 : goal.returns-in-3
returns-in-3 c =
    rw c.in-3.is refl

pub returns-in-9 : goal.returns-in-9
returns-in-9 c =
    rw c.in-9.is refl

pub returns-in-10 : goal.returns-in-10
returns-in-10 c =
    rw c.in-10.is refl

pub returns-in_default : goal.returns-in_default
returns-in_default c =
    pair_two c.args.op c.requires (omega arith) (omega arith) (omega arith)
