-- The cycle of `copy` meets its contracts: `copy` picks the function of a node's kind.
use Prim.Native.Nat.{◌+◌, ◌*◌, max}
use Rattle.form_writers.proofs.copy.+copy_copy_both_copy_one.Given as goal

abbrev pub decreases-copy : goal.decreases-copy
decreases-copy l = 2 * l.i

abbrev pub decreases-copy_both : goal.decreases-copy_both
decreases-copy_both l = 2 * max l.a l.b + 1

abbrev pub decreases-copy_one : goal.decreases-copy_one
decreases-copy_one l = 2 * l.i + 1
