-- The cycle of `core` meets its contracts: `core` writes a signal, and `inner` picks the function of any other node's kind.
use Prim.Native.Nat.{◌+◌, ◌*◌, max}
use Rattle.form_writers.proofs.core_form.+core_core_both_core_one_dual_equal_finally_globally_implies_inner_not_implies_weak.Given as goal

abbrev pub decreases-core : goal.decreases-core
decreases-core l = 6 * l.i + 1

abbrev pub decreases-core_both : goal.decreases-core_both
decreases-core_both l = 6 * max l.a l.b + 2

abbrev pub decreases-core_one : goal.decreases-core_one
decreases-core_one l = 6 * l.i + 2

abbrev pub decreases-dual : goal.decreases-dual
decreases-dual l = 6 * max l.a l.b + 3

abbrev pub decreases-equal : goal.decreases-equal
decreases-equal l = 6 * max l.a l.b + 5

abbrev pub decreases-finally : goal.decreases-finally
decreases-finally l = 6 * l.i + 2

abbrev pub decreases-globally : goal.decreases-globally
decreases-globally l = 6 * l.i + 3

abbrev pub decreases-implies : goal.decreases-implies
decreases-implies l = 6 * max l.a l.b + 3

abbrev pub decreases-inner : goal.decreases-inner
decreases-inner l = 6 * l.i

abbrev pub decreases-not_implies : goal.decreases-not_implies
decreases-not_implies l = 6 * max l.a l.b + 4

abbrev pub decreases-weak : goal.decreases-weak
decreases-weak l = 6 * max l.a l.b + 4
