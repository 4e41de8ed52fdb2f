-- `shared_table::head` meets its contract: the head is computed as it is defined.
use mathlib.Core.Path.{refl}
use Rattle.shared_table.specs.Shared.{head_of}
use Rattle.shared_table.proofs.head.Goals as goal

pub returns : goal.returns
unfolding head_of
returns c = refl
