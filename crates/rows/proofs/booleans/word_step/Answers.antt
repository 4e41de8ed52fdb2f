-- `word_step` meets its contract: each arm is one operator, and `!` on 64 bits turns over eight bytes.
use mathlib.Core.Path.{◌≡◌, refl}
use native.Mathlib.Omega.{arith}
use Rattle.node.specs.Ltl.{Iff}
use Rattle.node.specs.Kinds.{binary_kind}
use Rattle.rows.proofs.booleans.word_step.Goals as goal

pub returns-in-3 : goal.returns-in-3
returns-in-3 c =
    rw c.in-3.is refl

pub returns-in-4 : goal.returns-in-4
returns-in-4 c =
    rw c.in-4.is refl

pub returns-in-5 : goal.returns-in-5
returns-in-5 c =
    rw c.in-5.is refl

pub returns-in-6 : goal.returns-in-6
returns-in-6 c =
    rw c.in-6.is refl

pub returns-in_default : goal.returns-in_default
returns-in_default c =
    let e : c.args.kind ≡ binary_kind Iff = omega arith in rw e refl
