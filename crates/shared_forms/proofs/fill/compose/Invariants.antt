-- `fill::compose` meets its contract: the first j parts of the recipe stand.
use mathlib.Core.Path.{◌≡◌}
use lib.ListN.{length}
use Rattle.shared_forms.specs.Building.{ComposingBy}
use Rattle.shared_forms.proofs.fill.compose.Given as goal

abbrev pub invariant-loop-j : goal.invariant-loop-j
invariant-loop-j l = (length l.out ≡ length l.initial.out) × ComposingBy l.form l.nodes l.x l.row l.first l.second l.count l.j l.notes l.numbers l.out
