-- `expressions::close::close` meets its contract: the sign of each class, or a refusal.
use native.Mathlib.Omega.{arith}
use Prim.Native.Nat.{ℕ, ◌<◌}
use mathlib.Core.Path.{◌≡◌, sym, ap, ◌∙◌}
use Rattle.language.specs.Limits.{max_tokens}
use Rattle.lexer.specs.Numbers.{fixed}
use Rattle.entries.specs.Cursors.{number_at}
use Rattle.entries.specs.CursorLaws.{before-end}
use Rattle.expressions.specs.Classes.{Round, Bars, Square, Last, class_number}
use Rattle.expressions.specs.Stack.{slot_class, top_slot}
use Rattle.expressions.specs.CompleteLaws.{complete_tops, complete-fits}
use Rattle.expressions.specs.Closes.{built_round, built_bars, built_index, built_range, unclosed_round, unclosed_bars, unclosed_index, unclosed_range}
use Rattle.expressions.proofs.close.close.Goals as goal

pub top-f-requires : goal.top-f-requires
top-f-requires c =
    complete_tops c.requires.0.state (λ e. omega (arith, c.requires.1))

pub number-k-requires : goal.number-k-requires
number-k-requires c =
    complete-fits c.requires.0.state

abbrev sign : (c : goal.After-build-arg-1) → ℕ
sign c = number_at c.args.work.now c.args.m.c

closed_round : (c : goal.After-build-arg-1) → sign c ≡ fixed ")"
closed_round c = sym c.number-k.ensures ∙ c.if-k-eq-CLOSE_PAREN.true

-- a token that is not the text's end may be passed
passed : (c : goal.After-build-arg-1) → 0 < sign c → c.args.m.c.at < max_tokens
passed c l = omega (arith, before-end c.args.work.now c.args.m.c l, (complete-fits c.requires.0.state).few)

pub next-requires : goal.next-requires
next-requires c =
    let e = closed_round c in
    passed c (omega arith)

abbrev class : (c : goal.After-next) → ℕ
class c = slot_class (top_slot c.args.work.now c.args.m.depth)

class-read : (c : goal.After-next) → class c ≡ slot_class c.top-f.result
class-read c = ap slot_class (sym c.top-f.ensures)

-- the class and the sign, as each test leaves them
is_round : (c : goal.After-next) → class c ≡ class_number Round
is_round c = class-read c ∙ c.if-class-eq-ROUND.true

abbrev sign-2 : (c : goal.After-next) → ℕ
sign-2 c = number_at c.args.work.now c.args.m.c

closed_round-2 : (c : goal.After-next) → sign-2 c ≡ fixed ")"
closed_round-2 c = sym c.number-k.ensures ∙ c.if-k-eq-CLOSE_PAREN.true

pub build-requires : goal.build-requires
build-requires c =
    rw c.next.ensures (built_round c.requires.0.state c.requires.1 (is_round c) (closed_round-2 c)).0

abbrev class-2 : (c : goal.After-slice_known-then-k-eq-CLOSE_PAREN-1) → ℕ
class-2 c = slot_class (top_slot c.args.work.now c.args.m.depth)

class-read-2 : (c : goal.After-slice_known-then-k-eq-CLOSE_PAREN-1) → class-2 c ≡ slot_class c.top-f.result
class-read-2 c = ap slot_class (sym c.top-f.ensures)

is_round-2 : (c : goal.After-slice_known-then-k-eq-CLOSE_PAREN-1) → class-2 c ≡ class_number Round
is_round-2 c = class-read-2 c ∙ c.if-class-eq-ROUND.true

abbrev sign-3 : (c : goal.After-slice_known-then-k-eq-CLOSE_PAREN-1) → ℕ
sign-3 c = number_at c.args.work.now c.args.m.c

closed_round-3 : (c : goal.After-slice_known-then-k-eq-CLOSE_PAREN-1) → sign-3 c ≡ fixed ")"
closed_round-3 c = sym c.number-k.ensures ∙ c.if-k-eq-CLOSE_PAREN.true

pub returns-then-k-eq-CLOSE_PAREN : goal.returns-then-k-eq-CLOSE_PAREN
returns-then-k-eq-CLOSE_PAREN c =
    let build = c.build in
    λ ts s x h. rw (build.ensures.0, build.ensures.1, c.next.ensures) (built_round h c.requires.1 (is_round-2 c) (closed_round-3 c)).1

pub refuse-requires : goal.refuse-requires
refuse-requires c =
    complete-fits c.requires.0.state

abbrev class-3 : (c : goal.After-refuse) → ℕ
class-3 c = slot_class (top_slot c.args.work.now c.args.m.depth)

class-read-3 : (c : goal.After-refuse) → class-3 c ≡ slot_class c.top-f.result
class-read-3 c = ap slot_class (sym c.top-f.ensures)

is_round-3 : (c : goal.After-refuse) → class-3 c ≡ class_number Round
is_round-3 c = class-read-3 c ∙ c.if-class-eq-ROUND.true

abbrev sign-4 : (c : goal.After-refuse) → ℕ
sign-4 c = number_at c.args.work.now c.args.m.c

open_round : (c : goal.After-refuse) → sign-4 c ≡ fixed ")" → ⊥
open_round c e = c.if-k-eq-CLOSE_PAREN.false (c.number-k.ensures ∙ e)

pub returns-then-class-eq-ROUND : goal.returns-then-class-eq-ROUND
returns-then-class-eq-ROUND c =
    λ ts s x h. rw c.refuse.ensures (unclosed_round h c.requires.1 (is_round-3 c) (open_round c))

abbrev sign-5 : (c : goal.After-build-arg-then-k-eq-BAR-1) → ℕ
sign-5 c = number_at c.args.work.now c.args.m.c

closed_bars : (c : goal.After-build-arg-then-k-eq-BAR-1) → sign-5 c ≡ fixed "|"
closed_bars c = sym c.number-k.ensures ∙ c.if-k-eq-BAR.true

passed-2 : (c : goal.After-build-arg-then-k-eq-BAR-1) → 0 < sign-5 c → c.args.m.c.at < max_tokens
passed-2 c l = omega (arith, before-end c.args.work.now c.args.m.c l, (complete-fits c.requires.0.state).few)

pub next-requires-then-k-eq-BAR : goal.next-requires-then-k-eq-BAR
next-requires-then-k-eq-BAR c =
    let e = closed_bars c in
    passed-2 c (omega arith)

abbrev class-4 : (c : goal.After-next-then-k-eq-BAR) → ℕ
class-4 c = slot_class (top_slot c.args.work.now c.args.m.depth)

class-read-4 : (c : goal.After-next-then-k-eq-BAR) → class-4 c ≡ slot_class c.top-f.result
class-read-4 c = ap slot_class (sym c.top-f.ensures)

is_bars : (c : goal.After-next-then-k-eq-BAR) → class-4 c ≡ class_number Bars
is_bars c = class-read-4 c ∙ c.if-class-eq-BARS.true

abbrev sign-6 : (c : goal.After-next-then-k-eq-BAR) → ℕ
sign-6 c = number_at c.args.work.now c.args.m.c

closed_bars-2 : (c : goal.After-next-then-k-eq-BAR) → sign-6 c ≡ fixed "|"
closed_bars-2 c = sym c.number-k.ensures ∙ c.if-k-eq-BAR.true

pub build-requires-then-k-eq-BAR : goal.build-requires-then-k-eq-BAR
build-requires-then-k-eq-BAR c =
    rw c.next-then-k-eq-BAR.ensures (built_bars c.requires.0.state c.requires.1 (is_bars c) (closed_bars-2 c)).0

abbrev class-5 : (c : goal.After-slice_known-then-k-eq-BAR-1) → ℕ
class-5 c = slot_class (top_slot c.args.work.now c.args.m.depth)

class-read-5 : (c : goal.After-slice_known-then-k-eq-BAR-1) → class-5 c ≡ slot_class c.top-f.result
class-read-5 c = ap slot_class (sym c.top-f.ensures)

is_bars-2 : (c : goal.After-slice_known-then-k-eq-BAR-1) → class-5 c ≡ class_number Bars
is_bars-2 c = class-read-5 c ∙ c.if-class-eq-BARS.true

abbrev sign-7 : (c : goal.After-slice_known-then-k-eq-BAR-1) → ℕ
sign-7 c = number_at c.args.work.now c.args.m.c

closed_bars-3 : (c : goal.After-slice_known-then-k-eq-BAR-1) → sign-7 c ≡ fixed "|"
closed_bars-3 c = sym c.number-k.ensures ∙ c.if-k-eq-BAR.true

pub returns-then-k-eq-BAR : goal.returns-then-k-eq-BAR
returns-then-k-eq-BAR c =
    let build = c.build-then-k-eq-BAR in
    λ ts s x h. rw (build.ensures.0, build.ensures.1, c.next-then-k-eq-BAR.ensures) (built_bars h c.requires.1 (is_bars-2 c) (closed_bars-3 c)).1

pub refuse-requires-then-class-eq-BARS : goal.refuse-requires-then-class-eq-BARS
refuse-requires-then-class-eq-BARS c =
    complete-fits c.requires.0.state

abbrev class-6 : (c : goal.After-refuse-then-class-eq-BARS) → ℕ
class-6 c = slot_class (top_slot c.args.work.now c.args.m.depth)

class-read-6 : (c : goal.After-refuse-then-class-eq-BARS) → class-6 c ≡ slot_class c.top-f.result
class-read-6 c = ap slot_class (sym c.top-f.ensures)

is_bars-3 : (c : goal.After-refuse-then-class-eq-BARS) → class-6 c ≡ class_number Bars
is_bars-3 c = class-read-6 c ∙ c.if-class-eq-BARS.true

abbrev sign-8 : (c : goal.After-refuse-then-class-eq-BARS) → ℕ
sign-8 c = number_at c.args.work.now c.args.m.c

open_bars : (c : goal.After-refuse-then-class-eq-BARS) → sign-8 c ≡ fixed "|" → ⊥
open_bars c e = c.if-k-eq-BAR.false (c.number-k.ensures ∙ e)

pub returns-then-class-eq-BARS : goal.returns-then-class-eq-BARS
returns-then-class-eq-BARS c =
    λ ts s x h. rw c.refuse-then-class-eq-BARS.ensures (unclosed_bars h c.requires.1 (is_bars-3 c) (open_bars c))

abbrev sign-9 : (c : goal.After-build-arg-then-k-eq-CLOSE_BRACKET-1) → ℕ
sign-9 c = number_at c.args.work.now c.args.m.c

closed_square : (c : goal.After-build-arg-then-k-eq-CLOSE_BRACKET-1) → sign-9 c ≡ fixed "]"
closed_square c = sym c.number-k.ensures ∙ c.if-k-eq-CLOSE_BRACKET.true

passed-3 : (c : goal.After-build-arg-then-k-eq-CLOSE_BRACKET-1) → 0 < sign-9 c → c.args.m.c.at < max_tokens
passed-3 c l = omega (arith, before-end c.args.work.now c.args.m.c l, (complete-fits c.requires.0.state).few)

pub next-requires-then-k-eq-CLOSE_BRACKET : goal.next-requires-then-k-eq-CLOSE_BRACKET
next-requires-then-k-eq-CLOSE_BRACKET c =
    let e = closed_square c in
    passed-3 c (omega arith)

abbrev class-7 : (c : goal.After-next-then-k-eq-CLOSE_BRACKET) → ℕ
class-7 c = slot_class (top_slot c.args.work.now c.args.m.depth)

class-read-7 : (c : goal.After-next-then-k-eq-CLOSE_BRACKET) → class-7 c ≡ slot_class c.top-f.result
class-read-7 c = ap slot_class (sym c.top-f.ensures)

is_square : (c : goal.After-next-then-k-eq-CLOSE_BRACKET) → class-7 c ≡ class_number Square
is_square c = class-read-7 c ∙ c.if-class-eq-SQUARE.true

abbrev sign-10 : (c : goal.After-next-then-k-eq-CLOSE_BRACKET) → ℕ
sign-10 c = number_at c.args.work.now c.args.m.c

closed_square-2 : (c : goal.After-next-then-k-eq-CLOSE_BRACKET) → sign-10 c ≡ fixed "]"
closed_square-2 c = sym c.number-k.ensures ∙ c.if-k-eq-CLOSE_BRACKET.true

pub build-requires-then-k-eq-CLOSE_BRACKET : goal.build-requires-then-k-eq-CLOSE_BRACKET
build-requires-then-k-eq-CLOSE_BRACKET c =
    rw c.next-then-k-eq-CLOSE_BRACKET.ensures (built_index c.requires.0.state c.requires.1 (is_square c) (closed_square-2 c)).0

abbrev class-8 : (c : goal.After-slice_known-then-k-eq-CLOSE_BRACKET-1) → ℕ
class-8 c = slot_class (top_slot c.args.work.now c.args.m.depth)

class-read-8 : (c : goal.After-slice_known-then-k-eq-CLOSE_BRACKET-1) → class-8 c ≡ slot_class c.top-f.result
class-read-8 c = ap slot_class (sym c.top-f.ensures)

is_square-2 : (c : goal.After-slice_known-then-k-eq-CLOSE_BRACKET-1) → class-8 c ≡ class_number Square
is_square-2 c = class-read-8 c ∙ c.if-class-eq-SQUARE.true

abbrev sign-11 : (c : goal.After-slice_known-then-k-eq-CLOSE_BRACKET-1) → ℕ
sign-11 c = number_at c.args.work.now c.args.m.c

closed_square-3 : (c : goal.After-slice_known-then-k-eq-CLOSE_BRACKET-1) → sign-11 c ≡ fixed "]"
closed_square-3 c = sym c.number-k.ensures ∙ c.if-k-eq-CLOSE_BRACKET.true

pub returns-then-k-eq-CLOSE_BRACKET : goal.returns-then-k-eq-CLOSE_BRACKET
returns-then-k-eq-CLOSE_BRACKET c =
    let build = c.build-then-k-eq-CLOSE_BRACKET in
    λ ts s x h. rw (build.ensures.0, build.ensures.1, c.next-then-k-eq-CLOSE_BRACKET.ensures) (built_index h c.requires.1 (is_square-2 c) (closed_square-3 c)).1

pub refuse-requires-then-class-eq-SQUARE : goal.refuse-requires-then-class-eq-SQUARE
refuse-requires-then-class-eq-SQUARE c =
    complete-fits c.requires.0.state

abbrev class-9 : (c : goal.After-refuse-then-class-eq-SQUARE) → ℕ
class-9 c = slot_class (top_slot c.args.work.now c.args.m.depth)

class-read-9 : (c : goal.After-refuse-then-class-eq-SQUARE) → class-9 c ≡ slot_class c.top-f.result
class-read-9 c = ap slot_class (sym c.top-f.ensures)

is_square-3 : (c : goal.After-refuse-then-class-eq-SQUARE) → class-9 c ≡ class_number Square
is_square-3 c = class-read-9 c ∙ c.if-class-eq-SQUARE.true

abbrev sign-12 : (c : goal.After-refuse-then-class-eq-SQUARE) → ℕ
sign-12 c = number_at c.args.work.now c.args.m.c

open_square : (c : goal.After-refuse-then-class-eq-SQUARE) → sign-12 c ≡ fixed "]" → ⊥
open_square c e = c.if-k-eq-CLOSE_BRACKET.false (c.number-k.ensures ∙ e)

pub returns-then-class-eq-SQUARE : goal.returns-then-class-eq-SQUARE
returns-then-class-eq-SQUARE c =
    λ ts s x h. rw c.refuse-then-class-eq-SQUARE.ensures (unclosed_index h c.requires.1 (is_square-3 c) (open_square c))

abbrev sign-13 : (c : goal.After-build-arg-then-k-eq-CLOSE_BRACE-1) → ℕ
sign-13 c = number_at c.args.work.now c.args.m.c

closed-last : (c : goal.After-build-arg-then-k-eq-CLOSE_BRACE-1) → sign-13 c ≡ fixed "}"
closed-last c = sym c.number-k.ensures ∙ c.if-k-eq-CLOSE_BRACE.true

passed-4 : (c : goal.After-build-arg-then-k-eq-CLOSE_BRACE-1) → 0 < sign-13 c → c.args.m.c.at < max_tokens
passed-4 c l = omega (arith, before-end c.args.work.now c.args.m.c l, (complete-fits c.requires.0.state).few)

pub next-requires-then-k-eq-CLOSE_BRACE : goal.next-requires-then-k-eq-CLOSE_BRACE
next-requires-then-k-eq-CLOSE_BRACE c =
    let e = closed-last c in
    passed-4 c (omega arith)

abbrev class-10 : (c : goal.After-next-then-k-eq-CLOSE_BRACE) → ℕ
class-10 c = slot_class (top_slot c.args.work.now c.args.m.depth)

class-read-10 : (c : goal.After-next-then-k-eq-CLOSE_BRACE) → class-10 c ≡ slot_class c.top-f.result
class-read-10 c = ap slot_class (sym c.top-f.ensures)

is_last : (c : goal.After-next-then-k-eq-CLOSE_BRACE) → class-10 c ≡ class_number Last
is_last c =
    let low = c.requires.2 in
    let high = c.requires.3 in
    let e = class-read-10 c in
    omega arith

abbrev sign-14 : (c : goal.After-next-then-k-eq-CLOSE_BRACE) → ℕ
sign-14 c = number_at c.args.work.now c.args.m.c

closed-last-2 : (c : goal.After-next-then-k-eq-CLOSE_BRACE) → sign-14 c ≡ fixed "}"
closed-last-2 c = sym c.number-k.ensures ∙ c.if-k-eq-CLOSE_BRACE.true

pub build-requires-then-k-eq-CLOSE_BRACE : goal.build-requires-then-k-eq-CLOSE_BRACE
build-requires-then-k-eq-CLOSE_BRACE c =
    rw c.next-then-k-eq-CLOSE_BRACE.ensures (built_range c.requires.0.state c.requires.1 (is_last c) (closed-last-2 c)).0

abbrev class-11 : (c : goal.After-slice_known-then-k-eq-CLOSE_BRACE-1) → ℕ
class-11 c = slot_class (top_slot c.args.work.now c.args.m.depth)

class-read-11 : (c : goal.After-slice_known-then-k-eq-CLOSE_BRACE-1) → class-11 c ≡ slot_class c.top-f.result
class-read-11 c = ap slot_class (sym c.top-f.ensures)

is_last-2 : (c : goal.After-slice_known-then-k-eq-CLOSE_BRACE-1) → class-11 c ≡ class_number Last
is_last-2 c =
    let low = c.requires.2 in
    let high = c.requires.3 in
    let e = class-read-11 c in
    omega arith

abbrev sign-15 : (c : goal.After-slice_known-then-k-eq-CLOSE_BRACE-1) → ℕ
sign-15 c = number_at c.args.work.now c.args.m.c

closed-last-3 : (c : goal.After-slice_known-then-k-eq-CLOSE_BRACE-1) → sign-15 c ≡ fixed "}"
closed-last-3 c = sym c.number-k.ensures ∙ c.if-k-eq-CLOSE_BRACE.true

pub returns-then-k-eq-CLOSE_BRACE : goal.returns-then-k-eq-CLOSE_BRACE
returns-then-k-eq-CLOSE_BRACE c =
    let build = c.build-then-k-eq-CLOSE_BRACE in
    λ ts s x h. rw (build.ensures.0, build.ensures.1, c.next-then-k-eq-CLOSE_BRACE.ensures) (built_range h c.requires.1 (is_last-2 c) (closed-last-3 c)).1

pub refuse-requires-2 : goal.refuse-requires-2
refuse-requires-2 c =
    complete-fits c.requires.0.state

abbrev class-12 : (c : goal.After-refuse-2) → ℕ
class-12 c = slot_class (top_slot c.args.work.now c.args.m.depth)

class-read-12 : (c : goal.After-refuse-2) → class-12 c ≡ slot_class c.top-f.result
class-read-12 c = ap slot_class (sym c.top-f.ensures)

is_last-3 : (c : goal.After-refuse-2) → class-12 c ≡ class_number Last
is_last-3 c =
    let low = c.requires.2 in
    let high = c.requires.3 in
    let e = class-read-12 c in
    omega arith

abbrev sign-16 : (c : goal.After-refuse-2) → ℕ
sign-16 c = number_at c.args.work.now c.args.m.c

open_last : (c : goal.After-refuse-2) → sign-16 c ≡ fixed "}" → ⊥
open_last c e = c.if-k-eq-CLOSE_BRACE.false (c.number-k.ensures ∙ e)

pub returns : goal.returns
returns c =
    λ ts s x h. rw c.refuse-2.ensures (unclosed_range h c.requires.1 (is_last-3 c) (open_last c))
