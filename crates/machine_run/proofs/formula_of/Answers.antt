-- `formula_of` meets its contract: the run begins where the expression is to be worked out; a refusal is handed up, and the slots begin where they did.
use mathlib.Core.Path.{refl}
use Rattle.machine.specs.Came.{Expand}
use Rattle.machine_run.specs.AnswerLaws.{run-begins, formula-comes, formula-fails}
use Rattle.machine_run.proofs.formula_of.Goals as goal

pub evaluate-requires : goal.evaluate-requires
evaluate-requires c =
    let h = run-begins c.requires Expand c.initial-m.ensures in
    record { stands = h.0; bare = h.1 }

pub returns-in-Ok : goal.returns-in-Ok
returns-in-Ok c = formula-comes c.requires c.initial-m.ensures c.evaluate.ensures c.in-Ok.is

pub returns-in-Err : goal.returns-in-Err
returns-in-Err c = formula-fails c.requires c.initial-m.ensures c.evaluate.ensures c.in-Err.is refl
