-- `number_of` meets its contract: the run begins where the expression is to be worked out; what comes is a number or none, and a refusal is handed up.
use Rattle.node.proofs.ReturnedLaws.{raised}
use Rattle.machine.specs.Came.{Evaluate}
use Rattle.machine_run.specs.AnswerLaws.{run-begins, number-comes, number-fails}
use Rattle.machine_run.proofs.number_of.Goals as goal

pub evaluate-requires : goal.evaluate-requires
evaluate-requires c =
    let h = run-begins c.requires Evaluate c.initial-m.ensures in
    record { stands = h.0; bare = h.1 }

pub returns-in_err-n : goal.returns-in_err-n
returns-in_err-n c = rw (raised c.from_residual.ensures) (number-fails c.requires c.initial-m.ensures c.evaluate.ensures c.in_err-n.was)

pub returns : goal.returns
returns c = number-comes c.requires c.initial-m.ensures c.evaluate.ensures c.in_ok-n.was c.as_number.ensures
