-- `entry::prefix_at` meets its contract: the code of the token's number.
use mathlib.Core.Path.{ap, ◌∙◌}
use Rattle.operators.specs.Tables.{prefix_code_at}
use Rattle.operands.proofs.entry.prefix_at.Goals as goal

pub returns : goal.returns
returns c = c.prefix_code.ensures ∙ ap prefix_code_at c.number_at.ensures
