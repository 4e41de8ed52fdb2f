-- `expressions::close::whole` meets its contract: the entry's kind by the class, or by the operator's row of Table 1.
use native.Mathlib.Omega.{arith}
use Prim.Native.Nat.{ℕ}
use mathlib.Core.Path.{◌≡◌, sym, ap, ◌∙◌}
use Rattle.expressions.specs.Classes.{Right, Sole, Stepped, Within, Cons, Over, class_number}
use Rattle.expressions.specs.Stack.{slot_class, top_slot}
use Rattle.expressions.specs.CompleteLaws.{complete_tops, class_some}
use Rattle.expressions.specs.WholeLaws.{built-stepped, built-cons, built-right, built-sole, built-within, built-over}
use Rattle.expressions.proofs.close.whole.Goals as goal

pub top-f-requires : goal.top-f-requires
top-f-requires c =
    complete_tops c.requires.0.state (λ e. omega (arith, c.requires.1))

abbrev class : (c : goal.After-build-arg-1) → ℕ
class c = slot_class (top_slot c.args.work.now c.args.m.depth)

class-read : (c : goal.After-build-arg-1) → class c ≡ slot_class c.top-f.result
class-read c = ap slot_class (sym c.top-f.ensures)

-- the class, as each test leaves it
is-stepped : (c : goal.After-build-arg-1) → class c ≡ class_number Stepped
is-stepped c = class-read c ∙ c.if-class-eq-STEPPED.true

pub build-requires : goal.build-requires
build-requires c =
    (built-stepped c.requires.0.state c.requires.1 (is-stepped c)).0

abbrev class-2 : (c : goal.After-slice_known-then-class-eq-STEPPED-1) → ℕ
class-2 c = slot_class (top_slot c.args.work.now c.args.m.depth)

class-read-2 : (c : goal.After-slice_known-then-class-eq-STEPPED-1) → class-2 c ≡ slot_class c.top-f.result
class-read-2 c = ap slot_class (sym c.top-f.ensures)

is-stepped-2 : (c : goal.After-slice_known-then-class-eq-STEPPED-1) → class-2 c ≡ class_number Stepped
is-stepped-2 c = class-read-2 c ∙ c.if-class-eq-STEPPED.true

pub returns-then-class-eq-STEPPED : goal.returns-then-class-eq-STEPPED
returns-then-class-eq-STEPPED c =
    let build = c.build in
    λ ts s x h. rw (build.ensures.0, build.ensures.1) (built-stepped h c.requires.1 (is-stepped-2 c)).1

abbrev class-3 : (c : goal.After-build-arg-then-class-eq-CONS-1) → ℕ
class-3 c = slot_class (top_slot c.args.work.now c.args.m.depth)

class-read-3 : (c : goal.After-build-arg-then-class-eq-CONS-1) → class-3 c ≡ slot_class c.top-f.result
class-read-3 c = ap slot_class (sym c.top-f.ensures)

is-cons : (c : goal.After-build-arg-then-class-eq-CONS-1) → class-3 c ≡ class_number Cons
is-cons c = class-read-3 c ∙ c.if-class-eq-CONS.true

pub build-requires-then-class-eq-CONS : goal.build-requires-then-class-eq-CONS
build-requires-then-class-eq-CONS c =
    (built-cons c.requires.0.state c.requires.1 (is-cons c)).0

abbrev class-4 : (c : goal.After-slice_known-then-class-eq-CONS-1) → ℕ
class-4 c = slot_class (top_slot c.args.work.now c.args.m.depth)

class-read-4 : (c : goal.After-slice_known-then-class-eq-CONS-1) → class-4 c ≡ slot_class c.top-f.result
class-read-4 c = ap slot_class (sym c.top-f.ensures)

is-cons-2 : (c : goal.After-slice_known-then-class-eq-CONS-1) → class-4 c ≡ class_number Cons
is-cons-2 c = class-read-4 c ∙ c.if-class-eq-CONS.true

pub returns-then-class-eq-CONS : goal.returns-then-class-eq-CONS
returns-then-class-eq-CONS c =
    let build = c.build-then-class-eq-CONS in
    λ ts s x h. rw (build.ensures.0, build.ensures.1) (built-cons h c.requires.1 (is-cons-2 c)).1

pub operator-k-requires : goal.operator-k-requires
operator-k-requires c =
    c.requires.0.state.stacked.ready.fits.room

abbrev class-5 : (c : goal.After-infix) → ℕ
class-5 c = slot_class (top_slot c.args.work.now c.args.m.depth)

class-read-5 : (c : goal.After-infix) → class-5 c ≡ slot_class c.top-f.result
class-read-5 c = ap slot_class (sym c.top-f.ensures)

is_right : (c : goal.After-infix) → class-5 c ≡ class_number Right
is_right c = class-read-5 c ∙ c.if-class-eq-RIGHT.true

pub build-requires-then-class-eq-RIGHT : goal.build-requires-then-class-eq-RIGHT
build-requires-then-class-eq-RIGHT c =
    rw (c.infix.ensures, c.operator-k.ensures, c.top-f.ensures) (built-right c.requires.0.state c.requires.1 (is_right c)).0

abbrev class-6 : (c : goal.After-slice_known-then-class-eq-RIGHT-1) → ℕ
class-6 c = slot_class (top_slot c.args.work.now c.args.m.depth)

class-read-6 : (c : goal.After-slice_known-then-class-eq-RIGHT-1) → class-6 c ≡ slot_class c.top-f.result
class-read-6 c = ap slot_class (sym c.top-f.ensures)

is_right-2 : (c : goal.After-slice_known-then-class-eq-RIGHT-1) → class-6 c ≡ class_number Right
is_right-2 c = class-read-6 c ∙ c.if-class-eq-RIGHT.true

pub returns-then-class-eq-RIGHT : goal.returns-then-class-eq-RIGHT
returns-then-class-eq-RIGHT c =
    let build = c.build-then-class-eq-RIGHT in
    λ ts s x h. rw (build.ensures.0, build.ensures.1, c.infix.ensures, c.operator-k.ensures, c.top-f.ensures) (built-right h c.requires.1 (is_right-2 c)).1

abbrev class-7 : (c : goal.After-prefix) → ℕ
class-7 c = slot_class (top_slot c.args.work.now c.args.m.depth)

class-read-7 : (c : goal.After-prefix) → class-7 c ≡ slot_class c.top-f.result
class-read-7 c = ap slot_class (sym c.top-f.ensures)

is_sole : (c : goal.After-prefix) → class-7 c ≡ class_number Sole
is_sole c = class-read-7 c ∙ c.if-class-eq-SOLE.true

pub build-requires-then-class-eq-SOLE : goal.build-requires-then-class-eq-SOLE
build-requires-then-class-eq-SOLE c =
    rw (c.prefix.ensures, c.operator-k.ensures, c.top-f.ensures) (built-sole c.requires.0.state c.requires.1 (is_sole c)).0

abbrev class-8 : (c : goal.After-slice_known-then-class-eq-SOLE-1) → ℕ
class-8 c = slot_class (top_slot c.args.work.now c.args.m.depth)

class-read-8 : (c : goal.After-slice_known-then-class-eq-SOLE-1) → class-8 c ≡ slot_class c.top-f.result
class-read-8 c = ap slot_class (sym c.top-f.ensures)

is_sole-2 : (c : goal.After-slice_known-then-class-eq-SOLE-1) → class-8 c ≡ class_number Sole
is_sole-2 c = class-read-8 c ∙ c.if-class-eq-SOLE.true

pub returns-then-class-eq-SOLE : goal.returns-then-class-eq-SOLE
returns-then-class-eq-SOLE c =
    let build = c.build-then-class-eq-SOLE in
    λ ts s x h. rw (build.ensures.0, build.ensures.1, c.prefix.ensures, c.operator-k.ensures, c.top-f.ensures) (built-sole h c.requires.1 (is_sole-2 c)).1

abbrev class-9 : (c : goal.After-prefix-then-class-eq-WITHIN) → ℕ
class-9 c = slot_class (top_slot c.args.work.now c.args.m.depth)

class-read-9 : (c : goal.After-prefix-then-class-eq-WITHIN) → class-9 c ≡ slot_class c.top-f.result
class-read-9 c = ap slot_class (sym c.top-f.ensures)

is_within : (c : goal.After-prefix-then-class-eq-WITHIN) → class-9 c ≡ class_number Within
is_within c = class-read-9 c ∙ c.if-class-eq-WITHIN.true

pub build-requires-then-class-eq-WITHIN : goal.build-requires-then-class-eq-WITHIN
build-requires-then-class-eq-WITHIN c =
    rw (c.prefix-then-class-eq-WITHIN.ensures, c.operator-k.ensures, c.top-f.ensures) (built-within c.requires.0.state c.requires.1 (is_within c)).0

abbrev class-10 : (c : goal.After-slice_known-then-class-eq-WITHIN-1) → ℕ
class-10 c = slot_class (top_slot c.args.work.now c.args.m.depth)

class-read-10 : (c : goal.After-slice_known-then-class-eq-WITHIN-1) → class-10 c ≡ slot_class c.top-f.result
class-read-10 c = ap slot_class (sym c.top-f.ensures)

is_within-2 : (c : goal.After-slice_known-then-class-eq-WITHIN-1) → class-10 c ≡ class_number Within
is_within-2 c = class-read-10 c ∙ c.if-class-eq-WITHIN.true

pub returns-then-class-eq-WITHIN : goal.returns-then-class-eq-WITHIN
returns-then-class-eq-WITHIN c =
    let build = c.build-then-class-eq-WITHIN in
    λ ts s x h. rw (build.ensures.0, build.ensures.1, c.prefix-then-class-eq-WITHIN.ensures, c.operator-k.ensures, c.top-f.ensures) (built-within h c.requires.1 (is_within-2 c)).1

abbrev class-11 : (c : goal.After-prefix-2) → ℕ
class-11 c = slot_class (top_slot c.args.work.now c.args.m.depth)

class-read-11 : (c : goal.After-prefix-2) → class-11 c ≡ slot_class c.top-f.result
class-read-11 c = ap slot_class (sym c.top-f.ensures)

is-over : (c : goal.After-prefix-2) → class-11 c ≡ class_number Over
is-over c =
    let some = class_some c.requires.0.state c.requires.1 in
    let few = c.requires.2 in
    let e = class-read-11 c in
    omega arith

pub build-requires-2 : goal.build-requires-2
build-requires-2 c =
    rw (c.prefix-2.ensures, c.operator-k.ensures, c.top-f.ensures) (built-over c.requires.0.state c.requires.1 (is-over c)).0

abbrev class-12 : (c : goal.After-slice_known-2-1) → ℕ
class-12 c = slot_class (top_slot c.args.work.now c.args.m.depth)

class-read-12 : (c : goal.After-slice_known-2-1) → class-12 c ≡ slot_class c.top-f.result
class-read-12 c = ap slot_class (sym c.top-f.ensures)

is-over-2 : (c : goal.After-slice_known-2-1) → class-12 c ≡ class_number Over
is-over-2 c =
    let some = class_some c.requires.0.state c.requires.1 in
    let few = c.requires.2 in
    let e = class-read-12 c in
    omega arith

pub returns : goal.returns
returns c =
    λ ts s x h. rw (c.build-2.ensures.0, c.build-2.ensures.1, c.prefix-2.ensures, c.operator-k.ensures, c.top-f.ensures) (built-over h c.requires.1 (is-over-2 c)).1
