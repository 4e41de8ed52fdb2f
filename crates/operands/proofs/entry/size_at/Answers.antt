-- `entry::size_at` meets its contract: the lowest field of the entry's word.
use Rattle.operands.specs.Entries.{size_at}
use borrow.Author.Rules.{rules}
use Rattle.operands.proofs.entry.size_at.Goals as goal

pub returns : goal.returns
unfolding size_at
returns c = search rules
