-- `expressions::names::low` meets its contract: each of the three tokens behind the bound, or a refusal at it.
use native.Mathlib.Omega.{arith}
use mathlib.Core.Path.{◌≡◌, sym, ap, ◌∙◌}
use mathlib.Core.Bool.{true}
use Rattle.language.specs.Tokens.{Name}
use Rattle.lexer.specs.Numbers.{class_number as tokenNumber}
use Rattle.entries.specs.Cursors.{number_at, next_of}
use Rattle.expressions.specs.Signs.{sign_at}
use Rattle.expressions.specs.CompleteLaws.{complete_tops, complete-fits}
use Rattle.expressions.specs.BoundStarts.{turn_no_low, low-inside, low_fits, turn-no-name, name-inside, name-fits, turn-no-high, high-inside, bound-push, bound-second, turn-bound}
use Rattle.expressions.proofs.names.low.Goals as goal

pub number-requires : goal.number-requires
number-requires c =
    complete-fits c.requires.0.state

pub refuse-requires : goal.refuse-requires
refuse-requires c =
    complete-fits c.requires.0.state

-- what the tests said of the three tokens
low-sign : (c : goal.After-refuse) → sign_at (number_at c.args.work.now c.args.m.c) ≡ c.sign.result
low-sign c = ap sign_at (sym c.number.ensures) ∙ sym c.sign.ensures

pub returns-then-not-sign : goal.returns-then-not-sign
returns-then-not-sign c =
    λ ts s x h. rw c.refuse.ensures (turn_no_low h c.requires.1 c.requires.2 (low-sign c ∙ c.if-not-sign.true))

low-sign-2 : (c : goal.Else-not-sign) → sign_at (number_at c.args.work.now c.args.m.c) ≡ c.sign.result
low-sign-2 c = ap sign_at (sym c.number.ensures) ∙ sym c.sign.ensures

low-here : (c : goal.Else-not-sign) → sign_at (number_at c.args.work.now c.args.m.c) ≡ true
low-here c = low-sign-2 c ∙ c.if-not-sign.false

pub next-d-requires : goal.next-d-requires
next-d-requires c =
    let i = low-inside c.requires.0.state c.requires.1 c.requires.2 (low-here c) in
    omega (arith, (complete-fits c.requires.0.state).few)

low-sign-3 : (c : goal.After-next-d) → sign_at (number_at c.args.work.now c.args.m.c) ≡ c.sign.result
low-sign-3 c = ap sign_at (sym c.number.ensures) ∙ sym c.sign.ensures

low-here-2 : (c : goal.After-next-d) → sign_at (number_at c.args.work.now c.args.m.c) ≡ true
low-here-2 c = low-sign-3 c ∙ c.if-not-sign.false

pub number-requires-2 : goal.number-requires-2
number-requires-2 c =
    rw c.next-d.ensures (low_fits c.requires.0.state c.requires.1 c.requires.2 (low-here-2 c))

low-sign-4 : (c : goal.Then-number-ne-NAME) → sign_at (number_at c.args.work.now c.args.m.c) ≡ c.sign.result
low-sign-4 c = ap sign_at (sym c.number.ensures) ∙ sym c.sign.ensures

low-here-3 : (c : goal.Then-number-ne-NAME) → sign_at (number_at c.args.work.now c.args.m.c) ≡ true
low-here-3 c = low-sign-4 c ∙ c.if-not-sign.false

pub refuse-requires-then-number-ne-NAME : goal.refuse-requires-then-number-ne-NAME
refuse-requires-then-number-ne-NAME c =
    rw c.next-d.ensures (low_fits c.requires.0.state c.requires.1 c.requires.2 (low-here-3 c))

low-sign-5 : (c : goal.After-refuse-then-number-ne-NAME) → sign_at (number_at c.args.work.now c.args.m.c) ≡ c.sign.result
low-sign-5 c = ap sign_at (sym c.number.ensures) ∙ sym c.sign.ensures

low-here-4 : (c : goal.After-refuse-then-number-ne-NAME) → sign_at (number_at c.args.work.now c.args.m.c) ≡ true
low-here-4 c = low-sign-5 c ∙ c.if-not-sign.false

pub returns-then-number-ne-NAME : goal.returns-then-number-ne-NAME
returns-then-number-ne-NAME c =
    λ ts s x h. rw (c.refuse-then-number-ne-NAME.ensures, c.next-d.ensures)
    (turn-no-name h c.requires.1 c.requires.2 (low-here-4 c)
    (λ z. let q : c.number-2.result ≡ tokenNumber Name = c.number-2.ensures ∙ ap (number_at c.args.work.now) c.next-d.ensures ∙ z in omega arith))

low-sign-6 : (c : goal.Else-number-ne-NAME) → sign_at (number_at c.args.work.now c.args.m.c) ≡ c.sign.result
low-sign-6 c = ap sign_at (sym c.number.ensures) ∙ sym c.sign.ensures

low-here-5 : (c : goal.Else-number-ne-NAME) → sign_at (number_at c.args.work.now c.args.m.c) ≡ true
low-here-5 c = low-sign-6 c ∙ c.if-not-sign.false

name-here : (c : goal.Else-number-ne-NAME) → number_at c.args.work.now (next_of c.args.m.c) ≡ tokenNumber Name
name-here c =
    let next = c.next-d in
    ap (number_at c.args.work.now) (sym next.ensures) ∙ sym c.number-2.ensures ∙ c.if-number-ne-NAME.false

pub next-e-requires : goal.next-e-requires
next-e-requires c =
    let i = name-inside c.requires.0.state c.requires.1 c.requires.2 (low-here-5 c) (name-here c) in
    rw c.next-d.ensures (omega (arith, (complete-fits c.requires.0.state).few))

low-sign-7 : (c : goal.After-next-e) → sign_at (number_at c.args.work.now c.args.m.c) ≡ c.sign.result
low-sign-7 c = ap sign_at (sym c.number.ensures) ∙ sym c.sign.ensures

low-here-6 : (c : goal.After-next-e) → sign_at (number_at c.args.work.now c.args.m.c) ≡ true
low-here-6 c = low-sign-7 c ∙ c.if-not-sign.false

name-here-2 : (c : goal.After-next-e) → number_at c.args.work.now (next_of c.args.m.c) ≡ tokenNumber Name
name-here-2 c =
    let next = c.next-d in
    ap (number_at c.args.work.now) (sym next.ensures) ∙ sym c.number-2.ensures ∙ c.if-number-ne-NAME.false

pub number-requires-3 : goal.number-requires-3
number-requires-3 c =
    rw (c.next-e.ensures, c.next-d.ensures) (name-fits c.requires.0.state c.requires.1 c.requires.2 (low-here-6 c) (name-here-2 c))

low-sign-8 : (c : goal.Then-not-sign-2) → sign_at (number_at c.args.work.now c.args.m.c) ≡ c.sign.result
low-sign-8 c = ap sign_at (sym c.number.ensures) ∙ sym c.sign.ensures

low-here-7 : (c : goal.Then-not-sign-2) → sign_at (number_at c.args.work.now c.args.m.c) ≡ true
low-here-7 c = low-sign-8 c ∙ c.if-not-sign.false

name-here-3 : (c : goal.Then-not-sign-2) → number_at c.args.work.now (next_of c.args.m.c) ≡ tokenNumber Name
name-here-3 c =
    let next = c.next-d in
    ap (number_at c.args.work.now) (sym next.ensures) ∙ sym c.number-2.ensures ∙ c.if-number-ne-NAME.false

pub refuse-requires-then-not-sign-2 : goal.refuse-requires-then-not-sign-2
refuse-requires-then-not-sign-2 c =
    rw (c.next-e.ensures, c.next-d.ensures) (name-fits c.requires.0.state c.requires.1 c.requires.2 (low-here-7 c) (name-here-3 c))

low-sign-9 : (c : goal.After-refuse-then-not-sign-2) → sign_at (number_at c.args.work.now c.args.m.c) ≡ c.sign.result
low-sign-9 c = ap sign_at (sym c.number.ensures) ∙ sym c.sign.ensures

low-here-8 : (c : goal.After-refuse-then-not-sign-2) → sign_at (number_at c.args.work.now c.args.m.c) ≡ true
low-here-8 c = low-sign-9 c ∙ c.if-not-sign.false

name-here-4 : (c : goal.After-refuse-then-not-sign-2) → number_at c.args.work.now (next_of c.args.m.c) ≡ tokenNumber Name
name-here-4 c =
    let next = c.next-d in
    ap (number_at c.args.work.now) (sym next.ensures) ∙ sym c.number-2.ensures ∙ c.if-number-ne-NAME.false

high-sign : (c : goal.After-refuse-then-not-sign-2) → sign_at (number_at c.args.work.now (next_of (next_of c.args.m.c))) ≡ c.sign-2.result
high-sign c =
    let next2 = c.next-e in
    let next = c.next-d in
    ap sign_at (ap (number_at c.args.work.now) (sym (next2.ensures ∙ ap next_of next.ensures)) ∙ sym c.number-3.ensures) ∙ sym c.sign-2.ensures

pub returns-then-not-sign-2 : goal.returns-then-not-sign-2
returns-then-not-sign-2 c =
    λ ts s x h. rw (c.refuse-then-not-sign-2.ensures, c.next-e.ensures, c.next-d.ensures)
    (turn-no-high h c.requires.1 c.requires.2 (low-here-8 c) (name-here-4 c) (high-sign c ∙ c.if-not-sign-2.true))

pub top-f-requires : goal.top-f-requires
top-f-requires c =
    complete_tops c.requires.0.state (λ e. omega (arith, c.requires.1))

low-sign-10 : (c : goal.After-top-f) → sign_at (number_at c.args.work.now c.args.m.c) ≡ c.sign.result
low-sign-10 c = ap sign_at (sym c.number.ensures) ∙ sym c.sign.ensures

low-here-9 : (c : goal.After-top-f) → sign_at (number_at c.args.work.now c.args.m.c) ≡ true
low-here-9 c = low-sign-10 c ∙ c.if-not-sign.false

name-here-5 : (c : goal.After-top-f) → number_at c.args.work.now (next_of c.args.m.c) ≡ tokenNumber Name
name-here-5 c =
    let next = c.next-d in
    ap (number_at c.args.work.now) (sym next.ensures) ∙ sym c.number-2.ensures ∙ c.if-number-ne-NAME.false

high-sign-2 : (c : goal.After-top-f) → sign_at (number_at c.args.work.now (next_of (next_of c.args.m.c))) ≡ c.sign-2.result
high-sign-2 c =
    let next2 = c.next-e in
    let next = c.next-d in
    ap sign_at (ap (number_at c.args.work.now) (sym (next2.ensures ∙ ap next_of next.ensures)) ∙ sym c.number-3.ensures) ∙ sym c.sign-2.ensures

high-here : (c : goal.After-top-f) → sign_at (number_at c.args.work.now (next_of (next_of c.args.m.c))) ≡ true
high-here c = high-sign-2 c ∙ c.if-not-sign-2.false

pub next-g-requires : goal.next-g-requires
next-g-requires c =
    let i = high-inside c.requires.0.state c.requires.1 c.requires.2 (low-here-9 c) (name-here-5 c) (high-here c) in
    rw (c.next-e.ensures, c.next-d.ensures) (omega (arith, (complete-fits c.requires.0.state).few))

pub popped-requires : goal.popped-requires
popped-requires c =
    c.requires.1

low-sign-11 : (c : goal.After-push-arg-1) → sign_at (number_at c.args.work.now c.args.m.c) ≡ c.sign.result
low-sign-11 c = ap sign_at (sym c.number.ensures) ∙ sym c.sign.ensures

low-here-10 : (c : goal.After-push-arg-1) → sign_at (number_at c.args.work.now c.args.m.c) ≡ true
low-here-10 c = low-sign-11 c ∙ c.if-not-sign.false

name-here-6 : (c : goal.After-push-arg-1) → number_at c.args.work.now (next_of c.args.m.c) ≡ tokenNumber Name
name-here-6 c =
    let next = c.next-d in
    ap (number_at c.args.work.now) (sym next.ensures) ∙ sym c.number-2.ensures ∙ c.if-number-ne-NAME.false

high-sign-3 : (c : goal.After-push-arg-1) → sign_at (number_at c.args.work.now (next_of (next_of c.args.m.c))) ≡ c.sign-2.result
high-sign-3 c =
    let next2 = c.next-e in
    let next = c.next-d in
    ap sign_at (ap (number_at c.args.work.now) (sym (next2.ensures ∙ ap next_of next.ensures)) ∙ sym c.number-3.ensures) ∙ sym c.sign-2.ensures

high-here-2 : (c : goal.After-push-arg-1) → sign_at (number_at c.args.work.now (next_of (next_of c.args.m.c))) ≡ true
high-here-2 c = high-sign-3 c ∙ c.if-not-sign-2.false

pub push-n-requires : goal.push-n-requires
push-n-requires c =
    rw (c.popped.ensures, c.top-f.ensures)
    (bound-push c.requires.0.state c.requires.1 c.requires.2 (low-here-10 c) (name-here-6 c) (high-here-2 c))

low-sign-12 : (c : goal.After-push-arg-2-1) → sign_at (number_at c.args.work.now c.args.m.c) ≡ c.sign.result
low-sign-12 c = ap sign_at (sym c.number.ensures) ∙ sym c.sign.ensures

low-here-11 : (c : goal.After-push-arg-2-1) → sign_at (number_at c.args.work.now c.args.m.c) ≡ true
low-here-11 c = low-sign-12 c ∙ c.if-not-sign.false

name-here-7 : (c : goal.After-push-arg-2-1) → number_at c.args.work.now (next_of c.args.m.c) ≡ tokenNumber Name
name-here-7 c =
    let next = c.next-d in
    ap (number_at c.args.work.now) (sym next.ensures) ∙ sym c.number-2.ensures ∙ c.if-number-ne-NAME.false

high-sign-4 : (c : goal.After-push-arg-2-1) → sign_at (number_at c.args.work.now (next_of (next_of c.args.m.c))) ≡ c.sign-2.result
high-sign-4 c =
    let next2 = c.next-e in
    let next = c.next-d in
    ap sign_at (ap (number_at c.args.work.now) (sym (next2.ensures ∙ ap next_of next.ensures)) ∙ sym c.number-3.ensures) ∙ sym c.sign-2.ensures

high-here-3 : (c : goal.After-push-arg-2-1) → sign_at (number_at c.args.work.now (next_of (next_of c.args.m.c))) ≡ true
high-here-3 c = high-sign-4 c ∙ c.if-not-sign-2.false

pub push-requires : goal.push-requires
push-requires c =
    let push = c.push-n in
    rw (push.ensures.0, push.ensures.1, c.popped.ensures, c.next-g.ensures, c.next-e.ensures, c.next-d.ensures, c.top-f.ensures)
    (bound-second c.requires.0.state c.requires.1 c.requires.2 (low-here-11 c) (name-here-7 c) (high-here-3 c))

low-sign-13 : (c : goal.After-slice_known-3-1) → sign_at (number_at c.args.work.now c.args.m.c) ≡ c.sign.result
low-sign-13 c = ap sign_at (sym c.number.ensures) ∙ sym c.sign.ensures

low-here-12 : (c : goal.After-slice_known-3-1) → sign_at (number_at c.args.work.now c.args.m.c) ≡ true
low-here-12 c = low-sign-13 c ∙ c.if-not-sign.false

name-here-8 : (c : goal.After-slice_known-3-1) → number_at c.args.work.now (next_of c.args.m.c) ≡ tokenNumber Name
name-here-8 c =
    let next = c.next-d in
    ap (number_at c.args.work.now) (sym next.ensures) ∙ sym c.number-2.ensures ∙ c.if-number-ne-NAME.false

high-sign-5 : (c : goal.After-slice_known-3-1) → sign_at (number_at c.args.work.now (next_of (next_of c.args.m.c))) ≡ c.sign-2.result
high-sign-5 c =
    let next2 = c.next-e in
    let next = c.next-d in
    ap sign_at (ap (number_at c.args.work.now) (sym (next2.ensures ∙ ap next_of next.ensures)) ∙ sym c.number-3.ensures) ∙ sym c.sign-2.ensures

high-here-4 : (c : goal.After-slice_known-3-1) → sign_at (number_at c.args.work.now (next_of (next_of c.args.m.c))) ≡ true
high-here-4 c = high-sign-5 c ∙ c.if-not-sign-2.false

pub returns : goal.returns
returns c =
    let push = c.push-n in
    let push2 = c.push in
    λ ts s x h. rw (
      push2.ensures.0,
      push2.ensures.1,
      push.ensures.0,
      push.ensures.1,
      c.popped.ensures,
      c.next-g.ensures,
      c.next-e.ensures,
      c.next-d.ensures,
      c.top-f.ensures,
    ) (turn-bound h c.requires.1 c.requires.2 (low-here-12 c) (name-here-8 c) (high-here-4 c))
