-- `node_span` meets its contract: a constant, a signal, X, `!`, an operator of two operands, G and F, one of two that lasts.
use Prim.Native.Nat.{◌+◌, max}
use mathlib.Core.Path.{ap, ap₂, ◌∙◌}
use native.Mathlib.Omega.{arith}
use Rattle.lookahead.specs.Codes.{forever_code, number_at}
use Rattle.lookahead.proofs.CodeLaws.{node_constant, node-signal, node-next, node-not, node-joined, joined-boolean, joined-one, joined-two}
use Rattle.lookahead.proofs.node_span.Goals as goal

pub returns-then-kind-lt-SIGNAL : goal.returns-then-kind-lt-SIGNAL
returns-then-kind-lt-SIGNAL c =
    node_constant _ (number_at c.args.near.now c.args.far.now) c.kind-kind.ensures c.if-kind-lt-SIGNAL.true

pub returns-then-kind-lt-NOT : goal.returns-then-kind-lt-NOT
returns-then-kind-lt-NOT c =
    node-signal _ (number_at c.args.near.now c.args.far.now) c.kind-kind.ensures c.if-kind-lt-SIGNAL.false c.if-kind-lt-NOT.true

pub number_at-a-requires : goal.number_at-a-requires
number_at-a-requires c =
    let p = c.requires.0 (omega (arith, c.kind-kind.ensures, c.if-kind-lt-NOT.false)) in (omega (arith, p.0, c.first-x.ensures), c.requires.1)

pub overflow_add-result : goal.overflow_add-result
overflow_add-result c =
    let number = number_at c.args.near.now c.args.far.now in
    let room = (c.requires.0 (omega (arith, c.kind-kind.ensures, c.if-kind-lt-NOT.false))).2 in
    let e = c.number_at-a.ensures ∙ ap number c.first-x.ensures in omega (arith, room, e)

pub returns-then-kind-eq-NEXT : goal.returns-then-kind-eq-NEXT
returns-then-kind-eq-NEXT c =
    let number = number_at c.args.near.now c.args.far.now in
    ap (◌+ 1) c.number_at-a.ensures ∙ node-next _ number c.kind-kind.ensures c.if-kind-lt-NOT.false c.first-x.ensures c.if-kind-eq-NEXT.true

pub returns-then-kind-eq-NOT : goal.returns-then-kind-eq-NOT
returns-then-kind-eq-NOT c =
    let number = number_at c.args.near.now c.args.far.now in
    c.number_at-a.ensures ∙ node-not _ number c.kind-kind.ensures c.if-kind-lt-NOT.false c.first-x.ensures c.if-kind-eq-NEXT.false c.if-kind-eq-NOT.true

pub number_at-b-requires : goal.number_at-b-requires
number_at-b-requires c =
    let p = c.requires.0 (omega (arith, c.kind-kind.ensures, c.if-kind-lt-NOT.false)) in (omega (arith, p.1, c.second-y.ensures), c.requires.1)

pub returns-then-kind-lt-NEXT : goal.returns-then-kind-lt-NEXT
returns-then-kind-lt-NEXT c =
    let number = number_at c.args.near.now c.args.far.now in
    c.max.ensures ∙ ap₂ max c.number_at-a.ensures c.number_at-b.ensures ∙ joined-boolean c.kind-kind.result _ _ c.if-kind-lt-NEXT.true
    ∙ node-joined _ number c.kind-kind.ensures c.if-kind-lt-NOT.false c.first-x.ensures c.if-kind-eq-NEXT.false c.if-kind-eq-NOT.false c.second-y.ensures

pub returns-then-kind-le-FINALLY : goal.returns-then-kind-le-FINALLY
returns-then-kind-le-FINALLY c =
    let number = number_at c.args.near.now c.args.far.now in
    c.forever.ensures ∙ ap forever_code c.number_at-a.ensures ∙ joined-one c.kind-kind.result _ _ c.if-kind-lt-NEXT.false c.if-kind-le-FINALLY.true
    ∙ node-joined _ number c.kind-kind.ensures c.if-kind-lt-NOT.false c.first-x.ensures c.if-kind-eq-NEXT.false c.if-kind-eq-NOT.false c.second-y.ensures

pub number_at-b-requires-2 : goal.number_at-b-requires-2
number_at-b-requires-2 c =
    let p = c.requires.0 (omega (arith, c.kind-kind.ensures, c.if-kind-lt-NOT.false)) in (omega (arith, p.1, c.second-y.ensures), c.requires.1)

pub returns : goal.returns
returns c =
    let number = number_at c.args.near.now c.args.far.now in
    c.forever-2.ensures ∙ ap forever_code (c.max-2.ensures ∙ ap₂ max c.number_at-a.ensures c.number_at-b-2.ensures)
    ∙ joined-two c.kind-kind.result _ _ c.if-kind-lt-NEXT.false c.if-kind-le-FINALLY.false
    ∙ node-joined _ number c.kind-kind.ensures c.if-kind-lt-NOT.false c.first-x.ensures c.if-kind-eq-NEXT.false c.if-kind-eq-NOT.false c.second-y.ensures
