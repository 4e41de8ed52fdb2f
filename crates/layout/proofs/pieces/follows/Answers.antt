-- `follows` meets its contract: by the table's row.
use native.Mathlib.Omega.{arith}
use Rattle.layout.specs.TableLaws.{follows_is, in_table}
use Rattle.layout.proofs.pieces.follows.Goals as goal

pub bounds-pieces-kind : goal.bounds-pieces-kind
bounds-pieces-kind c =
    omega (arith, in_table c.args.kind c.args.done c.requires.0 c.requires.1.0 c.requires.1.1)

pub returns : goal.returns
returns c =
    follows_is c.args.kind c.args.done c.requires.0 c.requires.1.0 c.requires.1.1
