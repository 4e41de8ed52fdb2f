-- `fill::fill` meets its contract: the needed forms that are noted below x stand.
use mathlib.Core.Path.{◌≡◌}
use lib.ListN.{length}
use Rattle.shared_forms.specs.Building.{Building}
use Rattle.shared_forms.proofs.fill.fill.Given as goal

abbrev pub invariant-loop-x : goal.invariant-loop-x
invariant-loop-x l = (length l.notes ≡ length l.initial.notes) × ((length l.out ≡ length l.initial.out) × Building l.form l.nodes l.x l.notes l.out)
