-- An entry's levels: the definition's table has each value from one kind up to the next, which antt computes.
use native.Mathlib.Omega.{arith}
use native.Mathlib.Numerals.{add-one}
use Prim.Native.Nat.{ℕ, ◌+◌}
use mathlib.Core.Path.{◌≡◌, refl, sym, ap, ◌∙◌}
use lib.ListN.{get_or}
use Rattle.entries.specs.Kinds as Kind
use Rattle.traversal.specs.Stretches.{stretch}
use Rattle.depth.specs.Depth.{capped, own_levels, level_of}
use Rattle.depth.specs.LevelLaws.{level_by, first_level, further_level}
use Rattle.depth.proofs.level_of.Goals as goal

higher : (k n s : ℕ) {r : ℕ} → r ≡ capped (n + 1) → 1 ≡ get_or own_levels k 0 → r ≡ level_of k n s
higher k n s h e = h ∙ ap capped (add-one n) ∙ level_by k n s 1 e

pub returns-then-kind-lt-BIG_NUMBERS : goal.returns-then-kind-lt-BIG_NUMBERS
returns-then-kind-lt-BIG_NUMBERS c = higher _ _ _ c.raised.ensures (stretch own_levels {a = 0} (omega arith) c.if-kind-lt-BIG_NUMBERS.true refl)

pub returns-then-start-eq-BINDER : goal.returns-then-start-eq-BINDER
returns-then-start-eq-BINDER c =
    let big = stretch own_levels c.if-kind-lt-BIG_NUMBERS.false c.if-kind-lt-BINDER.true refl in
    c.raised-then-start-eq-BINDER.ensures ∙ ap capped (add-one _) ∙ sym (first_level _ _ _ (sym big) c.if-start-eq-BINDER.true)

pub returns-else-start-eq-BINDER : goal.returns-else-start-eq-BINDER
returns-else-start-eq-BINDER c = sym (further_level _ _ _ (sym (stretch own_levels c.if-kind-lt-BIG_NUMBERS.false c.if-kind-lt-BINDER.true refl)) c.if-start-eq-BINDER.false)

pub returns-then-kind-lt-LISTED : goal.returns-then-kind-lt-LISTED
returns-then-kind-lt-LISTED c = level_by _ _ _ 0 (stretch own_levels c.if-kind-lt-BINDER.false c.if-kind-lt-LISTED.true refl)

pub returns-then-kind-lt-ELEMENT : goal.returns-then-kind-lt-ELEMENT
returns-then-kind-lt-ELEMENT c = higher _ _ _ c.raised-then-kind-lt-ELEMENT.ensures (stretch own_levels c.if-kind-lt-LISTED.false c.if-kind-lt-ELEMENT.true refl)

pub returns-then-kind-lt-RANGE : goal.returns-then-kind-lt-RANGE
returns-then-kind-lt-RANGE c = level_by _ _ _ 0 (stretch own_levels c.if-kind-lt-ELEMENT.false c.if-kind-lt-RANGE.true refl)

pub returns-then-kind-lt-LINES : goal.returns-then-kind-lt-LINES
returns-then-kind-lt-LINES c = higher _ _ _ c.raised-then-kind-lt-LINES.ensures (stretch own_levels c.if-kind-lt-RANGE.false c.if-kind-lt-LINES.true refl)

pub returns-else-kind-lt-LINES : goal.returns-else-kind-lt-LINES
returns-else-kind-lt-LINES c = level_by _ _ _ 0 (stretch own_levels {b = Kind.limit} c.if-kind-lt-LINES.false (omega arith) refl)
