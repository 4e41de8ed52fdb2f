-- `renumbered` meets its contract, for nodes of no, two and one operands.
use mathlib.Core.Path.{sym, ◌∙◌}
use native.Mathlib.Omega.{arith}
use borrow.Author.Rules.{rules}
use Rattle.shifting.specs.NodeLaws.{number_fits, renumbered_none, renumbered-two, renumbered-one}
use Rattle.shifting.proofs.renumbered.Goals as goal

pub returns-then-kind-lt-NOT : goal.returns-then-kind-lt-NOT
returns-then-kind-lt-NOT c = renumbered_none _ _ c.kind-kind.ensures (omega (arith, c.if-kind-lt-NOT.true))

pub binary-requires : goal.binary-requires
binary-requires c =
    (search rules, (number_fits c.args.numbers.now _ c.requires c.number-first.ensures, number_fits c.args.numbers.now _ c.requires c.number-second.ensures))

pub returns-then-has_two : goal.returns-then-has_two
returns-then-has_two c =
    c.binary.ensures
    ∙ renumbered-two _ _ c.kind-kind.ensures (omega (arith, c.if-kind-lt-NOT.false)) c.first.ensures c.number-first.ensures
    (sym c.has_two.ensures ∙ c.if-has_two.true) c.second.ensures c.number-second.ensures

pub unary-requires : goal.unary-requires
unary-requires c =
    (search rules, number_fits c.args.numbers.now _ c.requires c.number-first.ensures)

pub returns : goal.returns
returns c =
    c.unary.ensures
    ∙ renumbered-one _ _ c.kind-kind.ensures (omega (arith, c.if-kind-lt-NOT.false)) c.first.ensures c.number-first.ensures
    (sym c.has_two.ensures ∙ c.if-has_two.false)
