-- `entries::Cursor::place` meets its contract: it reads the word of a token that is stored, and knows the text's end without one.
use native.Mathlib.Omega.{arith}
use mathlib.Core.Path.{sym}
use Rattle.entries.specs.CursorLaws.{place_stored, place_end}
use Rattle.entries.proofs.Cursor.place.Goals as goal

pub returns-then-at-self : goal.returns-then-at-self
returns-then-at-self c = rw c.get.ensures (sym (place_stored c.args.work.now c.args.self (omega arith)))

pub returns : goal.returns
returns c = sym (place_end c.args.work.now c.args.self (omega arith))
