-- `valued` meets its contract: the laws of a name and its value.
use Rattle.std.specs.Prelude.{Ok}
use mathlib.Core.Path.{ap, sym, ◌∙◌}
use Rattle.node.proofs.ReturnedLaws.{raised}
use Rattle.parser.proofs.Laws.LineReads.{valued-name, valued-sign, valued-refused, valued-writes, valued_read}
use Rattle.parser.proofs.Laws.Passing.{passed, passed-ready, passed_readied}
use native.Mathlib.Omega.{arith}
use Rattle.parser.proofs.lines.valued.Goals as goal

pub returns-in_err-d : goal.returns-in_err-d
returns-in_err-d c =
    rw (raised c.from_residual.ensures ∙ sym c.in_err-d.was)
    (λ ts ready. valued-name ready c.expect.ensures c.in_err-d.was)

pub expect-requires-2 : goal.expect-requires-2
expect-requires-2 c =
    let z = c.requires.0 in
    ((passed-ready z.ready (passed _ _ _ c.expect.ensures c.in_ok-d.was) (omega arith)).fits, omega arith)

pub returns-in_err-e : goal.returns-in_err-e
returns-in_err-e c =
    rw (raised c.from_residual-in_err-e.ensures ∙ sym c.in_err-e.was)
    (λ ts ready. valued-sign ready (passed _ _ _ c.expect.ensures c.in_ok-d.was) c.expect-2.ensures c.in_err-e.was)

pub expression-requires : goal.expression-requires
expression-requires c =
    let z = c.requires.0 in
    passed_readied (passed-ready z.ready (passed _ _ _ c.expect.ensures c.in_ok-d.was) (omega arith)) (passed _ _ _ c.expect-2.ensures c.in_ok-e.was) (omega
    arith)

pub returns-in_err-f : goal.returns-in_err-f
returns-in_err-f c =
    rw (raised c.from_residual-in_err-f.ensures ∙ sym c.in_err-f.was)
    (λ ts ready. valued-refused ready (passed _ _ _ c.expect.ensures c.in_ok-d.was) (passed _ _ _ c.expect-2.ensures c.in_ok-e.was)
    (c.expression.ensures ts (passed-ready (passed-ready ready (passed _ _ _ c.expect.ensures c.in_ok-d.was) (omega arith)) (passed _ _ _ c.expect-2.ensures c.in_ok-e.was)
    (omega arith))) c.in_err-f.was)

pub close-requires : goal.close-requires
close-requires c =
    let z = c.requires.0 in
    valued-writes z.ready (passed _ _ _ c.expect.ensures c.in_ok-d.was) (passed _ _ _ c.expect-2.ensures c.in_ok-e.was) (c.expression.ensures
    z.tokens (passed-ready (passed-ready z.ready (passed _ _ _ c.expect.ensures c.in_ok-d.was) (omega arith)) (passed _ _ _ c.expect-2.ensures c.in_ok-e.was) (omega arith))) c.in_ok-f.was _ c.requires.1

pub returns : goal.returns
returns c =
    λ ts ready. valued_read ready (passed _ _ _ c.expect.ensures c.in_ok-d.was) (passed _ _ _ c.expect-2.ensures c.in_ok-e.was)
    (c.expression.ensures ts (passed-ready (passed-ready ready (passed _ _ _ c.expect.ensures c.in_ok-d.was) (omega arith)) (passed _ _ _ c.expect-2.ensures c.in_ok-e.was)
    (omega arith))) c.in_ok-f.was _ c.requires.1 (ap Ok c.close.ensures.0) c.close.ensures.1
