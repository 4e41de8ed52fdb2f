-- `entries::Cursor::expect` meets its contract: a token with the number asked for is not the text's end, so there is one to go past.
use native.Mathlib.Omega.{arith}
use mathlib.Core.Path.{sym, ap, ◌∙◌}
use Rattle.std.specs.Prelude.{Ok}
use Rattle.entries.specs.CursorLaws.{before-end, expected-here, expected-not}
use Rattle.entries.proofs.Cursor.expect.Goals as goal

pub next-requires : goal.next-requires
next-requires c =
    omega (arith, before-end c.args.work.now c.args.self (omega arith))

pub returns-then-number : goal.returns-then-number
returns-then-number c =
    ap Ok c.next.ensures ∙ sym (expected-here c.args.work.now c.args.self c.args.number (omega arith))

pub returns : goal.returns
returns c =
    c.refuse.ensures ∙ sym (expected-not c.args.work.now c.args.self c.args.number (omega arith))
