-- `expressions::sets::further` meets its contract: the sign of each class, then the operand at the operator's level or the next bound.
use native.Mathlib.Omega.{arith}
use mathlib.Core.Path.{◌≡◌, sym, ap, ◌∙◌}
use lib.Dec.{lit<}
use Rattle.lexer.specs.Numbers.{fixed}
use Rattle.entries.specs.CursorLaws.{before-end}
use Rattle.expressions.specs.Classes.{Count, Low, High, class_number}
use Rattle.expressions.specs.Stack.{slot_class}
use Rattle.expressions.specs.CompleteLaws.{complete_tops, complete-fits}
use Rattle.expressions.specs.ReopenLaws.{turn-counted, turn_low, turn-high, turn-unlow, turn_unopened}
use Rattle.expressions.proofs.sets.further.Goals as goal

pub top-f-requires : goal.top-f-requires
top-f-requires c =
    (complete_tops c.requires.0.state (λ e. omega (arith, c.requires.1)))

pub number-k-requires : goal.number-k-requires
number-k-requires c =
    complete-fits c.requires.0.state

pub next-requires : goal.next-requires
next-requires c =
    let e = (let q : c.number-k.result ≡ fixed ":" = omega arith in sym c.number-k.ensures ∙ q) in
    omega (arith, before-end c.args.work.now c.args.m.c (omega arith), (complete-fits c.requires.0.state).few)

pub reopen-requires : goal.reopen-requires
reopen-requires c =
    ((complete_tops c.requires.0.state (λ e. omega (arith, c.requires.1))), lit< tt)

pub returns-then-k-eq-COLON : goal.returns-then-k-eq-COLON
returns-then-k-eq-COLON c =
    λ ts s x h. rw (c.reopen.ensures.0, c.reopen.ensures.1, c.next.ensures)
    (turn_low h c.requires.1 (let q : slot_class c.top-f.result ≡ class_number Low = omega arith in ap slot_class (sym c.top-f.ensures) ∙ q)
    (let q : c.number-k.result ≡ fixed ":" = omega arith in sym c.number-k.ensures ∙ q))

pub refuse-requires : goal.refuse-requires
refuse-requires c =
    complete-fits c.requires.0.state

pub returns-then-class-eq-LOW : goal.returns-then-class-eq-LOW
returns-then-class-eq-LOW c =
    λ ts s x h. rw c.refuse.ensures (turn-unlow h c.requires.1 (let q : slot_class c.top-f.result ≡ class_number Low = omega arith in ap slot_class (sym c.top-f.ensures) ∙ q)
    (λ z. let q : c.number-k.result ≡ fixed ":" = c.number-k.ensures ∙ z in omega arith))

pub refuse-requires-then-k-ne-CLOSE_BRACKET : goal.refuse-requires-then-k-ne-CLOSE_BRACKET
refuse-requires-then-k-ne-CLOSE_BRACKET c =
    complete-fits c.requires.0.state

pub returns-then-k-ne-CLOSE_BRACKET : goal.returns-then-k-ne-CLOSE_BRACKET
returns-then-k-ne-CLOSE_BRACKET c =
    λ ts s x h. rw c.refuse-then-k-ne-CLOSE_BRACKET.ensures (turn_unopened h c.requires.1 c.requires.2 c.requires.3 (λ z. c.if-class-eq-LOW.false (ap slot_class c.top-f.ensures ∙ z))
    (λ z. let q : c.number-k.result ≡ fixed "]" = c.number-k.ensures ∙ z in omega arith))

pub operator-requires : goal.operator-requires
operator-requires c =
    c.requires.0.state.stacked.ready.fits.room

pub next-requires-then-class-eq-COUNT : goal.next-requires-then-class-eq-COUNT
next-requires-then-class-eq-COUNT c =
    let e = (let q : c.number-k.result ≡ fixed "]" = omega arith in sym c.number-k.ensures ∙ q) in
    omega (arith, before-end c.args.work.now c.args.m.c (omega arith), (complete-fits c.requires.0.state).few)

pub reopen-requires-then-class-eq-COUNT : goal.reopen-requires-then-class-eq-COUNT
reopen-requires-then-class-eq-COUNT c =
    ((complete_tops c.requires.0.state (λ e. omega (arith, c.requires.1))), lit< tt)

pub returns-then-class-eq-COUNT : goal.returns-then-class-eq-COUNT
returns-then-class-eq-COUNT c =
    λ ts s x h. rw (
      c.reopen-then-class-eq-COUNT.ensures.0,
      c.reopen-then-class-eq-COUNT.ensures.1,
      c.next-then-class-eq-COUNT.ensures,
      c.prefix-level.ensures,
      c.operator.ensures,
      c.top-f.ensures,
    ) (turn-counted h c.requires.1 (let q : slot_class c.top-f.result ≡ class_number Count = omega arith in ap slot_class (sym c.top-f.ensures) ∙ q)
    (let q : c.number-k.result ≡ fixed "]" = omega arith in sym c.number-k.ensures ∙ q))

pub next-requires-2 : goal.next-requires-2
next-requires-2 c =
    let e = (let q : c.number-k.result ≡ fixed "]" = omega arith in sym c.number-k.ensures ∙ q) in
    omega (arith, before-end c.args.work.now c.args.m.c (omega arith), (complete-fits c.requires.0.state).few)

pub reopen-requires-2 : goal.reopen-requires-2
reopen-requires-2 c =
    ((complete_tops c.requires.0.state (λ e. omega (arith, c.requires.1))), lit< tt)

pub returns : goal.returns
returns c =
    λ ts s x h. rw (
      c.reopen-2.ensures.0,
      c.reopen-2.ensures.1,
      c.next-2.ensures,
      c.prefix-level.ensures,
      c.operator.ensures,
      c.top-f.ensures,
    ) (turn-high h c.requires.1 (let q : slot_class c.top-f.result ≡ class_number High =
    (let low = c.requires.2 in let high = c.requires.3 in let e = ap slot_class c.top-f.ensures in omega arith) in ap slot_class (sym c.top-f.ensures) ∙ q)
    (let q : c.number-k.result ≡ fixed "]" = omega arith in sym c.number-k.ensures ∙ q))
