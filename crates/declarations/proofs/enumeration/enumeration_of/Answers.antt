-- `enumeration_of` meets its contract.
use mathlib.Core.Path.{sym, ap, ◌∙◌}
use native.Mathlib.Omega.{arith}
use lib.ListN.{get_or}
use Rattle.operands.specs.Entries.{kind_at}
use Rattle.declarations.specs.EnumerationLaws.{enumeration_far, enumeration-past, enumeration-other, enumeration-own}
use Rattle.declarations.proofs.enumeration.enumeration_of.Goals as goal

pub returns-then-r-ge-MAX_NAMES : goal.returns-then-r-ge-MAX_NAMES
returns-then-r-ge-MAX_NAMES c =
    enumeration_far c.args.work.now c.args.refs.now
    c.args.found.now c.args.k c.from-r.result
    (c.from-r.ensures ∙ ap (λ i. get_or c.args.refs.now i 0) c.before-2.ensures)
    c.if-r-ge-MAX_NAMES.true

pub returns-then-e-ge-MAX_TOKENS : goal.returns-then-e-ge-MAX_TOKENS
returns-then-e-ge-MAX_TOKENS c =
    enumeration-past c.args.work.now
    c.args.refs.now
    c.args.found.now
    c.args.k c.from-r.result
    (c.from-r.ensures ∙ ap (λ i. get_or c.args.refs.now i 0)
    c.before-2.ensures) c.from-e.result c.from-e.ensures (omega (arith, c.if-r-ge-MAX_NAMES.false))
    c.if-e-ge-MAX_TOKENS.true

pub returns-then-kind_at-eq-ENUMERATION : goal.returns-then-kind_at-eq-ENUMERATION
unfolding kind_at
returns-then-kind_at-eq-ENUMERATION c =
    enumeration-own c.args.work.now
    c.args.refs.now
    c.args.found.now
    c.args.k c.from-r.result
    (c.from-r.ensures ∙ ap
    (λ i. get_or c.args.refs.now i 0)
    c.before-2.ensures) c.from-e.result c.from-e.ensures
    (omega (arith, c.if-r-ge-MAX_NAMES.false)) (omega (arith, c.if-e-ge-MAX_TOKENS.false)) (sym c.kind_at.ensures ∙ c.if-kind_at-eq-ENUMERATION.true)

pub returns : goal.returns
unfolding kind_at
returns c =
    enumeration-other c.args.work.now
    c.args.refs.now
    c.args.found.now
    c.args.k c.from-r.result
    (c.from-r.ensures ∙ ap
    (λ i. get_or c.args.refs.now i 0)
    c.before-2.ensures) c.from-e.result c.from-e.ensures
    (omega (arith, c.if-r-ge-MAX_NAMES.false)) (omega (arith, c.if-e-ge-MAX_TOKENS.false)) (λ e. c.if-kind_at-eq-ENUMERATION.false (c.kind_at.ensures ∙ e))
