-- `fill::part` meets its contract: an operand's form is noted, and any other part is put.
use mathlib.Core.Path.{refl}
use native.Mathlib.Omega.{arith}
use Rattle.shared_forms.specs.StepLaws.{operand_true, operand_false}
use Rattle.shared_forms.specs.ComposeLaws.{steps-inside, steps_loaded, steps-put}
use Rattle.shared_forms.proofs.fill.part.Goals as goal

pub offset_bounds-notes-place : goal.offset_bounds-notes-place
offset_bounds-notes-place c = let i = steps-inside c.requires (operand_true c.is_operand.ensures c.if-is_operand.true) c.place_of-place.ensures in record { fits = omega arith }

pub bounds-notes-place : goal.bounds-notes-place
bounds-notes-place c =
    steps-inside c.requires (operand_true c.is_operand.ensures c.if-is_operand.true) c.place_of-place.ensures

pub returns-then-is_operand : goal.returns-then-is_operand
returns-then-is_operand c =
    steps_loaded (operand_true c.is_operand.ensures c.if-is_operand.true) c.place_of-place.ensures refl

pub word_over-word-requires : goal.word_over-word-requires
word_over-word-requires c =
    let p = c.requires in
    let n = p.numbered in
    (p.known, (p.first_fits, ((n.some _ p.first_slot, n.few _ p.first_slot), (n.some _ p.second-slot, n.few _ p.second-slot))))

pub returns : goal.returns
returns c =
    steps-put (operand_false c.is_operand.ensures c.if-is_operand.false) c.word_over-word.ensures c.put.ensures
