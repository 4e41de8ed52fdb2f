-- `entry::number_at` meets its contract: the highest field of the word of the entry's token.
use Rattle.operands.specs.Entries.{number_at}
use Rattle.operands.proofs.entry.number_at.Goals as goal

pub returns : goal.returns
unfolding number_at
returns c = rw (c.get-2.ensures, c.get.ensures)
