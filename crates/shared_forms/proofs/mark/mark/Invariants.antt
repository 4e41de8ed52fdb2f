-- `mark::mark` meets its contract: from x on, what is needed has its operands' forms noted.
use Prim.Native.Nat.{◌*◌, ◌≤◌}
use mathlib.Core.Path.{◌≡◌}
use lib.ListN.{length}
use Rattle.shared_forms.specs.Forming.{Marking}
use Rattle.shared_forms.proofs.mark.mark.Given as goal

abbrev pub invariant-loop-x : goal.invariant-loop-x
invariant-loop-x l = (length l.notes ≡ length l.initial.notes) × ((l.x ≤ 2 * length l.nodes) × Marking l.form l.nodes l.x l.notes)

abbrev pub decreases-loop-x : goal.decreases-loop-x
decreases-loop-x l = l.x
