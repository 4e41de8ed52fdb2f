-- `entry::kind_at` meets its contract: the highest field of the entry's word.
use Rattle.operands.specs.Entries.{kind_at}
use borrow.Author.Rules.{rules}
use Rattle.operands.proofs.entry.kind_at.Goals as goal

pub returns : goal.returns
unfolding kind_at
returns c = search rules
