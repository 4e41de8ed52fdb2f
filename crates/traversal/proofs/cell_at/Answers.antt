-- The cell of an entry: its word, and the word of its token.
use native.Mathlib.Omega.{arith}
use Rattle.traversal.specs.CellLaws.{cell_of}
use Rattle.traversal.proofs.cell_at.Goals as goal

pub returns : goal.returns
returns c =
    (cell_of c.args.work.now c.args.i c.get-x.result c.get-word.result c.get-x.ensures c.get-word.ensures, omega arith)
