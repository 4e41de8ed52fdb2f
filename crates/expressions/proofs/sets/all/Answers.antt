-- `expressions::sets::all` meets its contract: the set is complete, or its brace is missing.
use native.Mathlib.Omega.{arith}
use mathlib.Core.Path.{◌≡◌, sym, ◌∙◌}
use Rattle.lexer.specs.Numbers.{fixed}
use Rattle.entries.specs.CursorLaws.{before-end}
use Rattle.expressions.specs.CompleteLaws.{complete-fits}
use Rattle.expressions.specs.SetLaws.{set_all, unclosed-all}
use Rattle.expressions.proofs.sets.all.Goals as goal

pub number-requires : goal.number-requires
number-requires c =
    complete-fits c.requires.0.state

pub next-requires : goal.next-requires
next-requires c =
    let e = (let q : c.number.result ≡ fixed "}" = omega arith in sym c.number.ensures ∙ q) in
    omega (arith, before-end c.args.work.now c.args.m.c (omega arith), (complete-fits c.requires.0.state).few)

pub listed-requires : goal.listed-requires
listed-requires c =
    rw c.next.ensures (set_all c.requires.0.state c.requires.1 c.requires.2 (let q : c.number.result ≡ fixed "}" = omega arith in sym c.number.ensures ∙ q)).0

pub returns-then-number-eq-CLOSE_BRACE : goal.returns-then-number-eq-CLOSE_BRACE
returns-then-number-eq-CLOSE_BRACE c =
    λ ts s x h. rw (c.listed.ensures.0, c.listed.ensures.1, c.next.ensures)
    (set_all h c.requires.1 c.requires.2 (let q : c.number.result ≡ fixed "}" = omega arith in sym c.number.ensures ∙ q)).1

pub refuse-requires : goal.refuse-requires
refuse-requires c =
    complete-fits c.requires.0.state

pub returns : goal.returns
returns c =
    λ ts s x h. rw c.refuse.ensures (unclosed-all h c.requires.1 c.requires.2 (λ z. let q : c.number.result ≡ fixed "}" = c.number.ensures ∙ z in omega arith))
