-- `entry::infix_at` meets its contract: the code of the token's number.
use mathlib.Core.Path.{ap, ◌∙◌}
use Rattle.operators.specs.Tables.{infix_code_at}
use Rattle.operands.proofs.entry.infix_at.Goals as goal

pub returns : goal.returns
returns c = c.infix_code.ensures ∙ ap infix_code_at c.number_at.ensures
