-- Where the nodes stand and how many; past the last node one.
use native.Mathlib.Omega.{arith}
use mathlib.Core.Path.{refl}
use Rattle.name_steps.proofs.marks.mark.Goals as goal

pub returns-then-m-gt-MAX_NODES : goal.returns-then-m-gt-MAX_NODES
returns-then-m-gt-MAX_NODES c = record { some = λ e. omega arith; noted = λ l. omega (arith, c.if-m-gt-MAX_NODES.true) }

pub overflow_cast-result : goal.overflow_cast-result
overflow_cast-result c = omega (arith, c.if-m-gt-MAX_NODES.false, c.requires c.if-m-gt-MAX_NODES.false)

pub overflow_mul-result : goal.overflow_mul-result
overflow_mul-result c = omega (arith, c.if-m-gt-MAX_NODES.false, c.requires c.if-m-gt-MAX_NODES.false)

pub overflow_sub-result : goal.overflow_sub-result
overflow_sub-result c = omega (arith, c.if-m-gt-MAX_NODES.false, c.requires c.if-m-gt-MAX_NODES.false)

pub overflow_cast-result-2 : goal.overflow_cast-result-2
overflow_cast-result-2 c = omega (arith, c.if-m-gt-MAX_NODES.false, c.requires c.if-m-gt-MAX_NODES.false)

pub overflow_add-result : goal.overflow_add-result
overflow_add-result c = omega (arith, c.if-m-gt-MAX_NODES.false, c.requires c.if-m-gt-MAX_NODES.false)

pub returns : goal.returns
returns c = record { some = λ e. let l = c.requires c.if-m-gt-MAX_NODES.false in omega (arith, e); noted = λ l. refl }
