-- The cycle of `plain` and `negated` meets its contracts: each picks the function of a node's kind.
use Prim.Native.Nat.{◌+◌, ◌*◌, max}
use Rattle.form_writers.proofs.negation_form.+both_negated_both_plain_differ_equal_negated_negated_one_negated_plain_not_weak_plain_plain_negated_plain_one.Given as goal

abbrev pub decreases-both_negated : goal.decreases-both_negated
decreases-both_negated l = 4 * max l.a l.b + 1

abbrev pub decreases-both_plain : goal.decreases-both_plain
decreases-both_plain l = 4 * max l.a l.b + 1

abbrev pub decreases-differ : goal.decreases-differ
decreases-differ l = 4 * max l.a l.b + 2

abbrev pub decreases-equal : goal.decreases-equal
decreases-equal l = 4 * max l.a l.b + 2

abbrev pub decreases-negated : goal.decreases-negated
decreases-negated l = 4 * l.i

abbrev pub decreases-negated_one : goal.decreases-negated_one
decreases-negated_one l = 4 * l.i + 1

abbrev pub decreases-negated_plain : goal.decreases-negated_plain
decreases-negated_plain l = 4 * max l.a l.b + 1

abbrev pub decreases-not_weak : goal.decreases-not_weak
decreases-not_weak l = 4 * max l.a l.b + 2

abbrev pub decreases-plain : goal.decreases-plain
decreases-plain l = 4 * l.i

abbrev pub decreases-plain_negated : goal.decreases-plain_negated
decreases-plain_negated l = 4 * max l.a l.b + 1

abbrev pub decreases-plain_one : goal.decreases-plain_one
decreases-plain_one l = 4 * l.i + 1
