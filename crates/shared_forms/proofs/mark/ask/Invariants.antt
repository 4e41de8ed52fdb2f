-- `mark::ask` meets its contract: the operands' forms that the first j nodes of the recipe stand for are noted.
use mathlib.Core.Path.{◌≡◌}
use lib.ListN.{length}
use Rattle.shared_forms.specs.Forming.{AskingBy}
use Rattle.shared_forms.proofs.mark.ask.Given as goal

abbrev pub invariant-loop-j : goal.invariant-loop-j
invariant-loop-j l = (length l.notes ≡ length l.initial.notes) × AskingBy l.form l.nodes l.x l.row l.first l.second l.count l.j l.notes
