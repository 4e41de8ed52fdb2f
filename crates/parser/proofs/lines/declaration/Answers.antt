-- `declaration` meets its contract: by what follows the name.
use Rattle.node.proofs.ReturnedLaws.{raised}
use Rattle.parser.proofs.Laws.DeclarationReads.{declaration_name, name-ready, bus-within, declaration-bus, first-writes, second-writes, declaration-typed, signal-writes, declaration-signal}
use Rattle.parser.proofs.Laws.Passing.{next_of_lem, next_fits, passed}
use mathlib.Core.Path.{sym, ◌∙◌}
use native.Mathlib.Omega.{arith}
use Rattle.parser.proofs.lines.declaration.Goals as goal

pub returns-in_err-d : goal.returns-in_err-d
returns-in_err-d c =
    rw (raised c.from_residual.ensures ∙ sym c.in_err-d.was)
    (λ ts ready. declaration_name ready c.expect.ensures c.in_err-d.was)

pub number-number-requires : goal.number-number-requires
number-number-requires c =
    let z = c.requires in
    (name-ready z.ready (passed _ _ _ c.expect.ensures c.in_ok-d.was)).fits

pub bus-requires : goal.bus-requires
bus-requires c =
    let z = c.requires in (
      z,
      bus-within z.ready (passed _ _ _ c.expect.ensures c.in_ok-d.was)
          (sym c.number-number.ensures ∙ c.if-number-eq-OPEN_BRACKET.true),
    )

pub returns-then-number-eq-OPEN_BRACKET : goal.returns-then-number-eq-OPEN_BRACKET
returns-then-number-eq-OPEN_BRACKET c =
    λ ts ready. declaration-bus ready (passed _ _ _ c.expect.ensures c.in_ok-d.was) (sym c.number-number.ensures ∙ c.if-number-eq-OPEN_BRACKET.true) (c.bus.ensures ts ready)

pub next-requires : goal.next-requires
next-requires c =
    let z = c.requires in
    next_fits (name-ready z.ready (passed _ _ _ c.expect.ensures c.in_ok-d.was)) (sym c.number-number.ensures ∙ c.if-number-eq-NAME.true) (omega arith)

pub emit-e-requires : goal.emit-e-requires
emit-e-requires c =
    let z = c.requires in
    first-writes z.ready (passed _ _ _ c.expect.ensures c.in_ok-d.was) (λ e. c.if-number-eq-OPEN_BRACKET.false (c.number-number.ensures ∙ e)) (sym c.number-number.ensures ∙ c.if-number-eq-NAME.true) (next_of_lem c.next.ensures)

pub emit-requires : goal.emit-requires
emit-requires c =
    let z = c.requires in
    second-writes z.ready (passed _ _ _ c.expect.ensures c.in_ok-d.was) (λ e. c.if-number-eq-OPEN_BRACKET.false (c.number-number.ensures ∙ e))
    (sym c.number-number.ensures ∙ c.if-number-eq-NAME.true) (next_of_lem c.next.ensures) c.emit-e.ensures.0 c.emit-e.ensures.1

pub returns-then-number-eq-NAME : goal.returns-then-number-eq-NAME
returns-then-number-eq-NAME c =
    λ ts ready. declaration-typed ready (passed _ _ _ c.expect.ensures c.in_ok-d.was) (λ e. c.if-number-eq-OPEN_BRACKET.false (c.number-number.ensures ∙ e))
    (sym c.number-number.ensures ∙ c.if-number-eq-NAME.true) (next_of_lem c.next.ensures) c.emit-e.ensures.0 c.emit-e.ensures.1 c.emit.ensures.0 c.emit.ensures.1

pub emit-requires-2 : goal.emit-requires-2
emit-requires-2 c =
    let z = c.requires in
    signal-writes z.ready (passed _ _ _ c.expect.ensures c.in_ok-d.was) (λ e. c.if-number-eq-OPEN_BRACKET.false (c.number-number.ensures ∙ e)) (λ e. c.if-number-eq-NAME.false (c.number-number.ensures ∙ e))

pub returns : goal.returns
returns c =
    λ ts ready. declaration-signal ready (passed _ _ _ c.expect.ensures c.in_ok-d.was) (λ e. c.if-number-eq-OPEN_BRACKET.false (c.number-number.ensures ∙ e))
    (λ e. c.if-number-eq-NAME.false (c.number-number.ensures ∙ e)) c.emit-2.ensures.0 c.emit-2.ensures.1
