-- `entry::place_at` meets its contract: the middle field of the word of the entry's token.
use Rattle.operands.specs.Entries.{place_at}
use Rattle.operands.proofs.entry.place_at.Goals as goal

pub returns : goal.returns
unfolding place_at
returns c = rw (c.get-2.ensures, c.get.ensures)
