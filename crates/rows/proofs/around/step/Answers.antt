-- `step` meets its contract: each arm is the carries of one addition.
use mathlib.Core.Path.{◌≡◌}
use native.Mathlib.Omega.{arith}
use Rattle.node.specs.Ltl.{W}
use Rattle.node.specs.Kinds.{binary_kind}
use Rattle.rows.specs.SpanStepsLaws.{goes_globally, goes_finally, goes_until, goes_release, goes_weak}
use Rattle.rows.proofs.around.step.Goals as goal

pub returns-in-9 : goal.returns-in-9
returns-in-9 c = let a = c.args in rw c.in-9.is (goes_globally a.a a.b a.c c.requires.c_bound c.ripple.ensures)

pub returns-in-10 : goal.returns-in-10
returns-in-10 c = let a = c.args in rw c.in-10.is (goes_finally a.a a.b a.c c.requires.c_bound c.ripple-in-10.ensures)

pub returns-in-11 : goal.returns-in-11
returns-in-11 c = let a = c.args in rw c.in-11.is (goes_until a.a a.b a.c c.requires.c_bound c.ripple-in-11.ensures)

pub returns-in-12 : goal.returns-in-12
returns-in-12 c = let a = c.args in rw c.in-12.is (goes_release a.a a.b a.c c.requires.c_bound c.ripple-in-12.ensures)

pub returns-in_default : goal.returns-in_default
returns-in_default c =
    let a = c.args in
    let e : a.kind ≡ binary_kind W = omega arith in rw e (goes_weak a.a a.b a.c c.requires.c_bound c.ripple-in_default.ensures)
