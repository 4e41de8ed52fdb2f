-- `piece_size` meets its contract: by the table's row.
use mathlib.Core.Path.{◌∙◌}
use native.Mathlib.Omega.{arith}
use Rattle.layout.specs.TableLaws.{table-row, size_is, in_table}
use Rattle.layout.proofs.pieces.piece_size.Goals as goal

pub bounds-pieces-kind : goal.bounds-pieces-kind
bounds-pieces-kind c =
    omega (arith, in_table c.args.kind c.args.done c.requires.0 c.requires.1.0 c.requires.1.1)

pub returns : goal.returns
returns c =
    let e = c.from.ensures ∙ size_is c.args.kind c.args.done c.requires.0 c.requires.1.0 c.requires.1.1 in
    (e, omega (arith, e, (table-row c.args.kind c.args.done c.requires.1.0 c.requires.1.1).short))
