-- `sort_of` meets its contract.
use Rattle.declarations.specs.WidthsLaws.{sort_bus}
use Rattle.declarations.proofs.width.sort_of.Goals as goal

pub returns-else-width-eq0 : goal.returns-else-width-eq0
returns-else-width-eq0 c = sort_bus c.args.width c.if-width-eq0.false
