-- `mark::note` meets its contract: the note is made where the recipe's node is an operand's signal.
use mathlib.Core.Path.{refl}
use native.Mathlib.Omega.{arith}
use Rattle.shared_forms.specs.StepLaws.{operand_true, operand_false, operand-inside, notes_made}
use Rattle.shared_forms.proofs.mark.note.Goals as goal

pub offset_bounds-notes-place : goal.offset_bounds-notes-place
offset_bounds-notes-place c = let i = operand-inside c.requires (operand_true c.is_operand.ensures c.if-is_operand.true) c.place_of-place.ensures in record { fits = omega arith }

pub bounds-notes-place : goal.bounds-notes-place
bounds-notes-place c = operand-inside c.requires (operand_true c.is_operand.ensures c.if-is_operand.true) c.place_of-place.ensures

pub returns-then-is_operand : goal.returns-then-is_operand
returns-then-is_operand c = notes_made (operand_true c.is_operand.ensures c.if-is_operand.true) c.place_of-place.ensures

pub returns-else-is_operand : goal.returns-else-is_operand
returns-else-is_operand c = record { made = λ o. absurd (operand_false c.is_operand.ensures c.if-is_operand.false o); left = λ d. refl }
