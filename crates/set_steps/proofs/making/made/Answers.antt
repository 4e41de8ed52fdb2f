-- `making::made` meets its contract: a set comes, a refusal is handed up.
use Rattle.node.proofs.ReturnedLaws.{raised}
use Rattle.set_steps.proofs.making.made.Goals as goal

pub returns-in_err-n : goal.returns-in_err-n
returns-in_err-n c = rw c.in_err-n.was (raised c.from_residual.ensures)

pub returns : goal.returns
returns c = rw c.in_ok-n.was
