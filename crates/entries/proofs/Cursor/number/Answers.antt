-- `entries::Cursor::number` meets its contract: it reads the word of a token that is stored, and knows the text's end without one.
use native.Mathlib.Omega.{arith}
use mathlib.Core.Path.{sym}
use Rattle.entries.specs.CursorLaws.{number_stored, number-end}
use Rattle.entries.proofs.Cursor.number.Goals as goal

pub returns-then-at-self : goal.returns-then-at-self
returns-then-at-self c = rw c.get.ensures (sym (number_stored c.args.work.now c.args.self (omega arith)))

pub returns : goal.returns
returns c = sym (number-end c.args.work.now c.args.self (omega arith))
