-- `byte_step` meets its contract: each arm is one operator.
use mathlib.Core.Path.{◌≡◌, refl}
use native.Mathlib.Omega.{arith}
use lib.Bits.{xor_lt}
use Rattle.node.specs.Ltl.{Iff}
use Rattle.node.specs.Kinds.{binary_kind}
use Rattle.rows.proofs.booleans.byte_step.Goals as goal

pub overflow_sub-result-in_default : goal.overflow_sub-result-in_default
overflow_sub-result-in_default c =
    omega (arith, xor_lt 8 c.args.x c.args.y c.requires.x_bound.0 c.requires.x_bound.1)

pub returns-in-3 : goal.returns-in-3
returns-in-3 c =
    rw c.in-3.is refl

pub returns-in-4 : goal.returns-in-4
returns-in-4 c =
    rw c.in-4.is refl

pub returns-in-5 : goal.returns-in-5
returns-in-5 c =
    rw c.in-5.is refl

pub returns-in-6 : goal.returns-in-6
returns-in-6 c =
    rw c.in-6.is refl

pub returns-in_default : goal.returns-in_default
returns-in_default c =
    let e : c.args.kind ≡ binary_kind Iff = omega arith in rw e refl
