-- `bus` meets its contract: the laws of a bus and its width.
use Rattle.std.specs.Prelude.{Ok}
use mathlib.Core.Path.{ap, sym, ◌∙◌}
use Rattle.node.proofs.ReturnedLaws.{raised}
use Rattle.parser.proofs.Laws.DeclarationReads.{width-ready, bus-refused, bus-unclosed, bus-writes, bus-read}
use Rattle.parser.proofs.Laws.Passing.{next_of_lem, passed}
use Rattle.parser.proofs.Laws.Rows.{accepted}
use native.Mathlib.Omega.{arith}
use Rattle.parser.proofs.lines.bus.Goals as goal

pub next-requires-2 : goal.next-requires-2
next-requires-2 c =
    let z = c.requires.0 in omega (arith, (next_of_lem c.next.ensures).at, c.requires.1, z.ready.fits.few)

pub expression-requires : goal.expression-requires
expression-requires c =
    let z = c.requires.0 in record { tokens = z.tokens; ready = width-ready z.ready c.requires.1 (next_of_lem c.next.ensures) (next_of_lem c.next-2.ensures) }

pub returns-in_err-d : goal.returns-in_err-d
returns-in_err-d c =
    rw (raised c.from_residual.ensures ∙ sym c.in_err-d.was)
    (λ ts ready. bus-refused ready c.requires.1 (next_of_lem c.next.ensures) (next_of_lem c.next-2.ensures) (c.expression.ensures ts (width-ready ready c.requires.1
    (next_of_lem c.next.ensures) (next_of_lem c.next-2.ensures))) c.in_err-d.was)

pub expect-requires : goal.expect-requires
expect-requires c =
    let z = c.requires.0 in (
      (accepted c.in_ok-d.was (c.expression.ensures z.tokens
          (width-ready z.ready c.requires.1
          (next_of_lem c.next.ensures)
          (next_of_lem c.next-2.ensures)))).took.ready.fits,
      omega arith,
    )

pub returns-in_err-e : goal.returns-in_err-e
returns-in_err-e c =
    rw (raised c.from_residual-in_err-e.ensures ∙ sym c.in_err-e.was)
    (λ ts ready. bus-unclosed ready c.requires.1 (next_of_lem c.next.ensures) (next_of_lem c.next-2.ensures) (c.expression.ensures ts (width-ready ready c.requires.1
    (next_of_lem c.next.ensures) (next_of_lem c.next-2.ensures))) c.in_ok-d.was c.expect.ensures c.in_err-e.was)

pub close-requires : goal.close-requires
close-requires c =
    let z = c.requires.0 in
    bus-writes z.ready c.requires.1 (next_of_lem c.next.ensures) (next_of_lem c.next-2.ensures) (c.expression.ensures z.tokens
    (width-ready z.ready c.requires.1 (next_of_lem c.next.ensures) (next_of_lem c.next-2.ensures))) c.in_ok-d.was (passed _ _ _ c.expect.ensures c.in_ok-e.was)

pub returns : goal.returns
returns c =
    λ ts ready. bus-read ready c.requires.1 (next_of_lem c.next.ensures) (next_of_lem c.next-2.ensures) (c.expression.ensures ts (width-ready ready c.requires.1
    (next_of_lem c.next.ensures) (next_of_lem c.next-2.ensures))) c.in_ok-d.was (passed _ _ _ c.expect.ensures c.in_ok-e.was) (ap Ok c.close.ensures.0)
    c.close.ensures.1
