-- `expressions::sets::element` meets its contract: another element is read next, or the list is complete.
use native.Mathlib.Omega.{arith}
use mathlib.Core.Path.{◌≡◌, sym, ◌∙◌}
use Rattle.lexer.specs.Numbers.{fixed}
use Rattle.expressions.specs.Classes.{Cons, class_number}
use Rattle.expressions.specs.ElementLaws.{listing-fits, listing-grows, listing-ends, comma-inside, listing-push, listing-second, listing-more}
use Rattle.expressions.proofs.sets.element.Goals as goal

pub number-requires : goal.number-requires
number-requires c =
    listing-fits c.requires.state

pub push-n-requires : goal.push-n-requires
push-n-requires c =
    listing-push c.requires.state (let q : c.number.result ≡ fixed "," = omega arith in sym c.number.ensures ∙ q)

pub next-requires : goal.next-requires
next-requires c =
    let i = comma-inside c.requires.state (let q : c.number.result ≡ fixed "," = omega arith in sym c.number.ensures ∙ q) in omega (arith, (listing-fits c.requires.state).few)

pub push-requires : goal.push-requires
push-requires c =
    rw (c.push-n.ensures.0, c.push-n.ensures.1)
    (listing-second c.requires.state (let q : c.number.result ≡ fixed "," = omega arith in sym c.number.ensures ∙ q) (class_number Cons) c.args.m.level c.args.m.c.at)

pub returns-then-number-eq-COMMA : goal.returns-then-number-eq-COMMA
returns-then-number-eq-COMMA c =
    λ ts s x h. rw (c.push.ensures.0, c.push.ensures.1, c.push-n.ensures.0, c.push-n.ensures.1, c.next.ensures)
    (listing-more h (let q : c.number.result ≡ fixed "," = omega arith in sym c.number.ensures ∙ q))

pub grow-d-requires : goal.grow-d-requires
grow-d-requires c =
    listing-grows c.requires.state

pub returns : goal.returns
returns c =
    λ ts s x h. rw (c.grow-d.ensures.0, c.grow-d.ensures.1) (listing-ends h (λ z. let q : c.number.result ≡ fixed "," = c.number.ensures ∙ z in omega arith))
