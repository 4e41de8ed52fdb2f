use native.Mathlib.Omega.{arith}
use mathlib.Core.Path.{refl}
use Rattle.std.proofs.lemmas.List.{length-take}
use Rattle.choices.specs.CoverageLaws.{rows-blank}
use Rattle.choices.specs.PromiseLaws.{tabling_none, tabling_skip, tabling-narrow, tabling-room, tabling-word, tabling_empty, tabling_all, tabling_wide, unnamed-is}
use Rattle.choices.proofs.coverage.leaves_unnamed.Goals as goal

pub loop-i-init : goal.loop-i-init
loop-i-init c = tabling_none _ _ _ _ _ (rows-blank _ refl)

pub cell_at-c-requires : goal.cell_at-c-requires
cell_at-c-requires c =
    (c.requires.readable.room, omega (arith, c.requires.readable.few, c.loop-i-test.true))

pub loop-i-preserved-then-c-ne-WORD : goal.loop-i-preserved-then-c-ne-WORD
loop-i-preserved-then-c-ne-WORD c =
    tabling_skip c.requires.regular c.loop-i.invariant c.loop-i-test.true c.cell_at-c.ensures.0 c.if-c-ne-WORD.true

pub marks-requires : goal.marks-requires
marks-requires c =
    (tabling-narrow c.requires.regular c.loop-i.invariant c.loop-i-test.true c.cell_at-c.ensures.0 c.if-c-ne-WORD.false, omega arith)

pub offset_bounds-rows-count : goal.offset_bounds-rows-count
offset_bounds-rows-count c =
    omega (arith, tabling-room c.requires.regular c.loop-i.invariant c.loop-i-test.true c.cell_at-c.ensures.0 c.if-c-ne-WORD.false)

pub bounds-rows-count : goal.bounds-rows-count
bounds-rows-count c =
    omega (
      arith,
      c.loop-i.invariant.filled.all,
      tabling-room c.requires.regular c.loop-i.invariant c.loop-i-test.true c.cell_at-c.ensures.0
          c.if-c-ne-WORD.false,
    )

pub overflow_add-count : goal.overflow_add-count
overflow_add-count c =
    omega (arith, tabling-room c.requires.regular c.loop-i.invariant c.loop-i-test.true c.cell_at-c.ensures.0 c.if-c-ne-WORD.false)

pub loop-i-preserved : goal.loop-i-preserved
loop-i-preserved c =
    tabling-word c.requires.regular c.loop-i.invariant c.loop-i-test.true c.cell_at-c.ensures.0 c.if-c-ne-WORD.false c.marks.result
    c.marks.ensures.0 c.marks.ensures.1

pub returns-then-count-eq0 : goal.returns-then-count-eq0
returns-then-count-eq0 c = unnamed-is (tabling_empty c.loop-i.invariant c.loop-i-test.false c.if-count-eq0.true)

pub covered-requires : goal.covered-requires
covered-requires c =
    (omega (arith, c.loop-i.invariant.filled.few, length-take c.loop-i.count c.loop-i.rows), (omega arith, tabling_wide c.requires.regular c.loop-i.invariant c.if-count-eq0.false))

pub returns : goal.returns
returns c =
    unnamed-is (tabling_all c.loop-i.invariant c.loop-i-test.false c.if-count-eq0.false c.covered.ensures)
