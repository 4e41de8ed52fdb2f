-- `expressions::sets::set` meets its contract: by the class of the frame and the sign behind the element.
use native.Mathlib.Omega.{arith}
use Prim.Native.Nat.{ℕ, ◌<◌}
use mathlib.Core.Path.{◌≡◌, sym, ap, ◌∙◌}
use lib.Dec.{lit<}
use Rattle.language.specs.Limits.{max_tokens}
use Rattle.lexer.specs.Numbers.{fixed}
use Rattle.entries.specs.Cursors.{number_at}
use Rattle.entries.specs.CursorLaws.{before-end}
use Rattle.expressions.specs.Classes.{All, One, Two, More, class_number}
use Rattle.expressions.specs.Stack.{slot_class, slot_level, slot_index, top_slot}
use Rattle.expressions.specs.CompleteLaws.{complete_tops, complete-fits}
use Rattle.expressions.specs.ReopenLaws.{turn-second, turn-range}
use Rattle.expressions.specs.SetLaws.{set-one, unclosed-one}
use Rattle.expressions.specs.ElementLaws.{lists-more, lists-two, kept-two, turn_more, turn_two}
use Rattle.expressions.proofs.sets.set.Goals as goal

pub top-f-requires : goal.top-f-requires
top-f-requires c =
    (complete_tops c.requires.0.state (λ e. omega (arith, c.requires.1)))

pub number-k-requires : goal.number-k-requires
number-k-requires c =
    complete-fits c.requires.0.state

abbrev sign : (c : goal.After-reopen-arg-1) → ℕ
sign c = number_at c.args.work.now c.args.m.c

comma : (c : goal.After-reopen-arg-1) → sign c ≡ fixed ","
comma c = sym c.number-k.ensures ∙ c.if-k-eq-COMMA.true

-- a token that is not the text's end may be passed
passed : (c : goal.After-reopen-arg-1) → 0 < sign c → c.args.m.c.at < max_tokens
passed c l = omega (arith, before-end c.args.work.now c.args.m.c l, (complete-fits c.requires.0.state).few)

-- a second element follows the first
pub next-requires : goal.next-requires
next-requires c =
    let e = comma c in
    passed c (omega arith)

pub reopen-requires : goal.reopen-requires
reopen-requires c =
    ((complete_tops c.requires.0.state (λ e. omega (arith, c.requires.1))), lit< tt)

abbrev slot : (c : goal.After-slice_known-then-k-eq-COMMA-1) → ℕ
slot c = top_slot c.args.work.now c.args.m.depth

class-read : (c : goal.After-slice_known-then-k-eq-COMMA-1) → slot_class (slot c) ≡ slot_class c.top-f.result
class-read c = ap slot_class (sym c.top-f.ensures)

-- the class and the sign, as each test leaves them
is_one : (c : goal.After-slice_known-then-k-eq-COMMA-1) → slot_class (slot c) ≡ class_number One
is_one c = class-read c ∙ c.if-class-eq-ONE.true

abbrev sign-2 : (c : goal.After-slice_known-then-k-eq-COMMA-1) → ℕ
sign-2 c = number_at c.args.work.now c.args.m.c

comma-2 : (c : goal.After-slice_known-then-k-eq-COMMA-1) → sign-2 c ≡ fixed ","
comma-2 c = sym c.number-k.ensures ∙ c.if-k-eq-COMMA.true

pub returns-then-k-eq-COMMA : goal.returns-then-k-eq-COMMA
returns-then-k-eq-COMMA c =
    let reopen = c.reopen in
    λ ts s x h. rw (reopen.ensures.0, reopen.ensures.1, c.next.ensures) (turn-second h c.requires.1 (is_one c) (comma-2 c))

abbrev sign-3 : (c : goal.After-listed-arg-1) → ℕ
sign-3 c = number_at c.args.work.now c.args.m.c

closed : (c : goal.After-listed-arg-1) → sign-3 c ≡ fixed "}"
closed c = sym c.number-k.ensures ∙ c.if-k-eq-CLOSE_BRACE.true

passed-2 : (c : goal.After-listed-arg-1) → 0 < sign-3 c → c.args.m.c.at < max_tokens
passed-2 c l = omega (arith, before-end c.args.work.now c.args.m.c l, (complete-fits c.requires.0.state).few)

-- the set ends behind the first
pub next-requires-then-k-eq-CLOSE_BRACE : goal.next-requires-then-k-eq-CLOSE_BRACE
next-requires-then-k-eq-CLOSE_BRACE c =
    let e = closed c in
    passed-2 c (omega arith)

abbrev slot-2 : (c : goal.After-next-then-k-eq-CLOSE_BRACE) → ℕ
slot-2 c = top_slot c.args.work.now c.args.m.depth

class-read-2 : (c : goal.After-next-then-k-eq-CLOSE_BRACE) → slot_class (slot-2 c) ≡ slot_class c.top-f.result
class-read-2 c = ap slot_class (sym c.top-f.ensures)

is_one-2 : (c : goal.After-next-then-k-eq-CLOSE_BRACE) → slot_class (slot-2 c) ≡ class_number One
is_one-2 c = class-read-2 c ∙ c.if-class-eq-ONE.true

abbrev sign-4 : (c : goal.After-next-then-k-eq-CLOSE_BRACE) → ℕ
sign-4 c = number_at c.args.work.now c.args.m.c

closed-2 : (c : goal.After-next-then-k-eq-CLOSE_BRACE) → sign-4 c ≡ fixed "}"
closed-2 c = sym c.number-k.ensures ∙ c.if-k-eq-CLOSE_BRACE.true

pub listed-requires : goal.listed-requires
listed-requires c =
    rw c.next-then-k-eq-CLOSE_BRACE.ensures (set-one c.requires.0.state c.requires.1 (is_one-2 c) (closed-2 c)).0

abbrev slot-3 : (c : goal.After-slice_known-then-k-eq-CLOSE_BRACE-1) → ℕ
slot-3 c = top_slot c.args.work.now c.args.m.depth

class-read-3 : (c : goal.After-slice_known-then-k-eq-CLOSE_BRACE-1) → slot_class (slot-3 c) ≡ slot_class c.top-f.result
class-read-3 c = ap slot_class (sym c.top-f.ensures)

is_one-3 : (c : goal.After-slice_known-then-k-eq-CLOSE_BRACE-1) → slot_class (slot-3 c) ≡ class_number One
is_one-3 c = class-read-3 c ∙ c.if-class-eq-ONE.true

abbrev sign-5 : (c : goal.After-slice_known-then-k-eq-CLOSE_BRACE-1) → ℕ
sign-5 c = number_at c.args.work.now c.args.m.c

closed-3 : (c : goal.After-slice_known-then-k-eq-CLOSE_BRACE-1) → sign-5 c ≡ fixed "}"
closed-3 c = sym c.number-k.ensures ∙ c.if-k-eq-CLOSE_BRACE.true

pub returns-then-k-eq-CLOSE_BRACE : goal.returns-then-k-eq-CLOSE_BRACE
returns-then-k-eq-CLOSE_BRACE c =
    let listed = c.listed in
    λ ts s x h. rw (listed.ensures.0, listed.ensures.1, c.next-then-k-eq-CLOSE_BRACE.ensures) (set-one h c.requires.1 (is_one-3 c) (closed-3 c)).1

pub refuse-requires : goal.refuse-requires
refuse-requires c =
    complete-fits c.requires.0.state

abbrev slot-4 : (c : goal.After-refuse) → ℕ
slot-4 c = top_slot c.args.work.now c.args.m.depth

class-read-4 : (c : goal.After-refuse) → slot_class (slot-4 c) ≡ slot_class c.top-f.result
class-read-4 c = ap slot_class (sym c.top-f.ensures)

is_one-4 : (c : goal.After-refuse) → slot_class (slot-4 c) ≡ class_number One
is_one-4 c = class-read-4 c ∙ c.if-class-eq-ONE.true

abbrev sign-6 : (c : goal.After-refuse) → ℕ
sign-6 c = number_at c.args.work.now c.args.m.c

no_comma : (c : goal.After-refuse) → sign-6 c ≡ fixed "," → ⊥
no_comma c e = c.if-k-eq-COMMA.false (c.number-k.ensures ∙ e)

unclosed : (c : goal.After-refuse) → sign-6 c ≡ fixed "}" → ⊥
unclosed c e = c.if-k-eq-CLOSE_BRACE.false (c.number-k.ensures ∙ e)

pub returns-then-class-eq-ONE : goal.returns-then-class-eq-ONE
returns-then-class-eq-ONE c =
    λ ts s x h. rw c.refuse.ensures (unclosed-one h c.requires.1 (is_one-4 c) (no_comma c) (unclosed c))

-- a further element
pub popped-requires : goal.popped-requires
popped-requires c =
    c.requires.1

abbrev slot-5 : (c : goal.After-element-arg-1) → ℕ
slot-5 c = top_slot c.args.work.now c.args.m.depth

class-read-5 : (c : goal.After-element-arg-1) → slot_class (slot-5 c) ≡ slot_class c.top-f.result
class-read-5 c = ap slot_class (sym c.top-f.ensures)

is-more : (c : goal.After-element-arg-1) → slot_class (slot-5 c) ≡ class_number More
is-more c = class-read-5 c ∙ c.if-class-eq-MORE.true

pub element-requires : goal.element-requires
element-requires c =
    let g = c.requires in
    rw c.popped.ensures
    (record { tokens = g.0.tokens; start = g.0.start; answer = g.0.answer; state = lists-more g.0.state g.1 (is-more c) })

abbrev slot-6 : (c : goal.After-slice_known-then-class-eq-MORE-1) → ℕ
slot-6 c = top_slot c.args.work.now c.args.m.depth

class-read-6 : (c : goal.After-slice_known-then-class-eq-MORE-1) → slot_class (slot-6 c) ≡ slot_class c.top-f.result
class-read-6 c = ap slot_class (sym c.top-f.ensures)

is-more-2 : (c : goal.After-slice_known-then-class-eq-MORE-1) → slot_class (slot-6 c) ≡ class_number More
is-more-2 c = class-read-6 c ∙ c.if-class-eq-MORE.true

pub returns-then-class-eq-MORE : goal.returns-then-class-eq-MORE
returns-then-class-eq-MORE c =
    let popped = c.popped in
    λ ts s x h. turn_more h c.requires.1
    (rw popped.ensures at (c.element.ensures ts s x (rw popped.ensures (lists-more h c.requires.1 (is-more-2 c)))))

abbrev sign-7 : (c : goal.After-reopen-arg-then-k-eq-DOTS-1) → ℕ
sign-7 c = number_at c.args.work.now c.args.m.c

dots : (c : goal.After-reopen-arg-then-k-eq-DOTS-1) → sign-7 c ≡ fixed ".."
dots c = sym c.number-k.ensures ∙ c.if-k-eq-DOTS.true

passed-3 : (c : goal.After-reopen-arg-then-k-eq-DOTS-1) → 0 < sign-7 c → c.args.m.c.at < max_tokens
passed-3 c l = omega (arith, before-end c.args.work.now c.args.m.c l, (complete-fits c.requires.0.state).few)

-- a range behind the second
pub next-requires-then-k-eq-DOTS : goal.next-requires-then-k-eq-DOTS
next-requires-then-k-eq-DOTS c =
    let e = dots c in
    passed-3 c (omega arith)

pub reopen-requires-then-k-eq-DOTS : goal.reopen-requires-then-k-eq-DOTS
reopen-requires-then-k-eq-DOTS c =
    ((complete_tops c.requires.0.state (λ e. omega (arith, c.requires.1))), lit< tt)

abbrev slot-7 : (c : goal.After-slice_known-then-k-eq-DOTS-1) → ℕ
slot-7 c = top_slot c.args.work.now c.args.m.depth

class-read-7 : (c : goal.After-slice_known-then-k-eq-DOTS-1) → slot_class (slot-7 c) ≡ slot_class c.top-f.result
class-read-7 c = ap slot_class (sym c.top-f.ensures)

is-two : (c : goal.After-slice_known-then-k-eq-DOTS-1) → slot_class (slot-7 c) ≡ class_number Two
is-two c =
    let low = c.requires.2 in
    let high = c.requires.3 in
    let e = class-read-7 c in
    omega arith

abbrev sign-8 : (c : goal.After-slice_known-then-k-eq-DOTS-1) → ℕ
sign-8 c = number_at c.args.work.now c.args.m.c

dots-2 : (c : goal.After-slice_known-then-k-eq-DOTS-1) → sign-8 c ≡ fixed ".."
dots-2 c = sym c.number-k.ensures ∙ c.if-k-eq-DOTS.true

pub returns-then-k-eq-DOTS : goal.returns-then-k-eq-DOTS
returns-then-k-eq-DOTS c =
    let reopen2 = c.reopen-then-k-eq-DOTS in
    λ ts s x h. rw (reopen2.ensures.0, reopen2.ensures.1, c.next-then-k-eq-DOTS.ensures) (turn-range h c.requires.1 (is-two c) (dots-2 c))

-- the elements from the second on
pub popped-requires-2 : goal.popped-requires-2
popped-requires-2 c =
    c.requires.1

pub push-n-requires : goal.push-n-requires
push-n-requires c =
    let p = complete_tops c.requires.0.state (λ e. omega (arith, c.requires.1)) in
    rw c.popped-2.ensures (record { room = p.room; deep = omega (arith, p.deep, p.some); class-fits = lit< tt; level_fits = omega arith; token-fits = omega arith })

abbrev slot-8 : (c : goal.After-element-arg-2-1) → ℕ
slot-8 c = top_slot c.args.work.now c.args.m.depth

class-read-8 : (c : goal.After-element-arg-2-1) → slot_class (slot-8 c) ≡ slot_class c.top-f.result
class-read-8 c = ap slot_class (sym c.top-f.ensures)

is-two-2 : (c : goal.After-element-arg-2-1) → slot_class (slot-8 c) ≡ class_number Two
is-two-2 c =
    let low = c.requires.2 in
    let high = c.requires.3 in
    let e = class-read-8 c in
    omega arith

abbrev sign-9 : (c : goal.After-element-arg-2-1) → ℕ
sign-9 c = number_at c.args.work.now c.args.m.c

no_dots : (c : goal.After-element-arg-2-1) → sign-9 c ≡ fixed ".." → ⊥
no_dots c e = c.if-k-eq-DOTS.false (c.number-k.ensures ∙ e)

pub element-requires-2 : goal.element-requires-2
element-requires-2 c =
    let g = c.requires in
    let push = c.push-n in
    rw (push.ensures.0, push.ensures.1, c.popped-2.ensures, c.top-f.ensures)
    (record { tokens = g.0.tokens; start = g.0.start; answer = g.0.answer; state = lists-two g.0.state g.1 (is-two-2 c) (no_dots c) })

abbrev slot-9 : (c : goal.After-slice_known-3-1) → ℕ
slot-9 c = top_slot c.args.work.now c.args.m.depth

class-read-9 : (c : goal.After-slice_known-3-1) → slot_class (slot-9 c) ≡ slot_class c.top-f.result
class-read-9 c = ap slot_class (sym c.top-f.ensures)

is-two-3 : (c : goal.After-slice_known-3-1) → slot_class (slot-9 c) ≡ class_number Two
is-two-3 c =
    let low = c.requires.2 in
    let high = c.requires.3 in
    let e = class-read-9 c in
    omega arith

abbrev sign-10 : (c : goal.After-slice_known-3-1) → ℕ
sign-10 c = number_at c.args.work.now c.args.m.c

no_dots-2 : (c : goal.After-slice_known-3-1) → sign-10 c ≡ fixed ".." → ⊥
no_dots-2 c e = c.if-k-eq-DOTS.false (c.number-k.ensures ∙ e)

pub returns : goal.returns
returns c =
    let push = c.push-n in
    let top = c.top-f in
    λ ts s x h. turn_two h c.requires.1 (kept-two h c.requires.1 (is-two-3 c) (class_number All) (slot_level (slot-9 c)) (slot_index (slot-9 c)))
    (rw (push.ensures.0, push.ensures.1, c.popped-2.ensures, top.ensures) at
    (c.element-2.ensures ts s x
    (rw (push.ensures.0, push.ensures.1, c.popped-2.ensures, top.ensures) (lists-two h c.requires.1 (is-two-3 c) (no_dots-2 c)))))
