-- `weight` meets its contract: the table's rule is one test at each of its sixteen entries.
use borrow.Author.Rules.{rules}
use Rattle.writing.proofs.Weights.{weight-at}
use Rattle.writing.proofs.copies.weight.Goals as goal

pub returns : goal.returns
returns c = weight-at c.args.kind (search rules)
