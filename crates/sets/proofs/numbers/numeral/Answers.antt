use native.Mathlib.Omega.{arith}
use native.Mathlib.Numerals.{add-one}
use Rattle.sets.specs.NumberLaws.{reading_on, numeral-read, numeral_large, digits_low, digits-high, digits-end}
use Rattle.sets.proofs.numbers.numeral.Goals as goal

pub returns-then-c-lt48 : goal.returns-then-c-lt48
returns-then-c-lt48 c =
    numeral-read _ _ _ _ c.loop-i.invariant.1 c.loop-i.invariant.0 (digits_low _ _ c.loop-i-test.true (rw c.from-c.ensures at c.if-c-lt48.true))

pub returns-then-c-gt57 : goal.returns-then-c-gt57
returns-then-c-gt57 c =
    numeral-read _ _ _ _ c.loop-i.invariant.1 c.loop-i.invariant.0 (digits-high _ _ c.loop-i-test.true (rw c.from-c.ensures at c.if-c-gt57.true))

pub returns-then-v-gt-MAX_NUMBER : goal.returns-then-v-gt-MAX_NUMBER
returns-then-v-gt-MAX_NUMBER c =
    numeral_large _ _ _ _ (reading_on _ _ _ _ _ c.loop-i.invariant.1 c.loop-i-test.true c.from-c.ensures c.if-c-lt48.false c.if-c-gt57.false) c.if-v-gt-MAX_NUMBER.true

pub loop-i-preserved : goal.loop-i-preserved
loop-i-preserved c =
    (omega arith, rw add-one (reading_on _ _ _ _ _ c.loop-i.invariant.1 c.loop-i-test.true c.from-c.ensures c.if-c-lt48.false c.if-c-gt57.false))

pub returns : goal.returns
returns c =
    numeral-read _ _ _ _ c.loop-i.invariant.1 c.loop-i.invariant.0 (digits-end _ _ c.loop-i-test.false)
