-- A formula as a value is marked as one; a value as a formula is a misfit.
use Rattle.std.specs.Prelude.{ℕ, List, refl, Ok, Err}
use Rattle.std.proofs.Common.{◌∙◌, arith}
use Rattle.node.proofs.ResultLaws.{bind_to}
use Rattle.node.specs.Returned.{refusal}
use Rattle.machine.specs.declared.Move.TheVariants.{Next}
use Rattle.language.specs.Values.{Logic}
use Rattle.operands.specs.Working.{Source}
use Rattle.machine.specs.Came.{worth, nodes}
use Rattle.machine.specs.Telling.{is_logic}
use Rattle.machine.specs.States.{Steps}
use Rattle.machine.specs.StateLaws.{entered}
use Rattle.machine.specs.EnterLaws.{comes, fails}
use Rattle.machine.specs.Moves.{came}
use Rattle.machine.specs.ComeLaws.{misfit_then}
use Rattle.machine.specs.OperandLaws.{operand-view}
use Rattle.machine.specs.declared.Machine.{Machine}
use Rattle.machine.specs.EnteringLaws.{works-value, works-formula, operand_making}
use Rattle.each_steps.specs.Misfits.{Logical, Formless}

pub logic-steps : {s : Source} {mem : List ℕ} {m : Machine} → Logical s.work m → Steps s mem mem m (Ok (Next (came m is_logic 0 0)))
logic-steps k = record {
  turns = λ R x o out h.
      let e = k.mode in
      let n = entered h (omega arith) in
      let v = operand-view n.at.operand k.class in
      comes n Logic (works-value n e ∙ bind_to _ Logic worth (v n.context.values)) refl tt;
}

pub misfit-steps : {s : Source} {mem : List ℕ} {m : Machine} → Formless s.work m → Steps s mem mem m (Err (refusal 9 0))
misfit-steps k = record {
  turns = λ R x o out h.
      let e = k.mode in
      let n = entered h (omega arith) in
      let v = operand_making n.at.operand k.making in
      fails n (works-formula n e ∙ misfit_then nodes (v n.context));
}
