-- `pieces` meets its contract: the table is the one of the definition, by computing.
use mathlib.Core.Path.{refl}
use Rattle.layout.specs.Table.{table}
use Rattle.layout.proofs.pieces.pieces.Goals as goal

pub returns : goal.returns
unfolding table
returns c = refl
