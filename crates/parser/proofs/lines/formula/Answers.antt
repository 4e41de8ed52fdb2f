-- `formula` meets its contract: the laws of a formula behind the token before it.
use Rattle.std.specs.Prelude.{Ok}
use mathlib.Core.Path.{ap, sym, ◌∙◌}
use Rattle.node.proofs.ReturnedLaws.{raised}
use Rattle.parser.proofs.Laws.LineReads.{formula-refused, formula-writes, formula-read}
use Rattle.parser.proofs.Laws.Passing.{next_of_lem, past-ready}
use Rattle.parser.proofs.lines.formula.Goals as goal

pub expression-requires : goal.expression-requires
expression-requires c =
    let z = c.requires.0 in record { tokens = z.tokens; ready = past-ready z.ready (next_of_lem c.next.ensures) c.requires.1 }

pub returns-in_err-d : goal.returns-in_err-d
returns-in_err-d c =
    rw (raised c.from_residual.ensures ∙ sym c.in_err-d.was)
    (λ ts ready. formula-refused ready c.requires.1 (next_of_lem c.next.ensures) (c.expression.ensures ts (past-ready ready (next_of_lem c.next.ensures) c.requires.1)) c.in_err-d.was)

pub close-requires : goal.close-requires
close-requires c =
    let z = c.requires.0 in
    formula-writes z.ready c.requires.1 (next_of_lem c.next.ensures) (c.expression.ensures z.tokens (past-ready z.ready (next_of_lem c.next.ensures) c.requires.1)) c.in_ok-d.was

pub returns : goal.returns
returns c =
    λ ts ready. formula-read ready c.requires.1 (next_of_lem c.next.ensures) (c.expression.ensures ts (past-ready ready (next_of_lem c.next.ensures) c.requires.1))
    c.in_ok-d.was (ap Ok c.close.ensures.0) c.close.ensures.1
