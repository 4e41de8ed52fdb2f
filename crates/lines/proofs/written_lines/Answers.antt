use native.Mathlib.Omega.{arith}
use Rattle.node.proofs.ReturnedLaws.{raised}
use Rattle.lines.specs.WalkLaws.{lengths_same, lengths_then, sizes_stay, walking_starts, walking-all, walking-heading, walking-passed, some-line, some-begun, walking_line, walking-refused}
use Rattle.lines.proofs.written_lines.Goals as goal
use Rattle.lines.proofs.written_lines.Goals.{then-c-eq-LINE+in_ok-e, else-c-eq-LINE}

pub loop-i-init : goal.loop-i-init
loop-i-init c =
    (lengths_same _, walking_starts c.whole.ensures)

pub cell_at-c-requires : goal.cell_at-c-requires
cell_at-c-requires c =
    (c.requires.sizes.work, omega (arith, c.loop-i-test.true, c.requires.some_tree.begins.tree.stored.few))

pub loop-i-preserved-then-c-eq-HEADING : goal.loop-i-preserved-then-c-eq-HEADING
loop-i-preserved-then-c-eq-HEADING c =
    (c.loop-i.invariant.0, walking-heading c.loop-i.invariant.1 c.cell_at-c.ensures.0 c.loop-i-test.true c.if-c-eq-HEADING.true (omega arith))

pub overflow_sub-here : goal.overflow_sub-here
overflow_sub-here c =
    omega (arith, some-begun c.loop-i.invariant.1 c.cell_at-c.ensures.0 c.loop-i-test.true c.if-c-eq-LINE.true c.requires.some_tree)

pub line-requires : goal.line-requires
line-requires c =
    record { sizes = sizes_stay c.requires.sizes c.loop-i.invariant.0; some_line = some-line c.loop-i.invariant.1 c.cell_at-c.ensures.0 c.loop-i-test.true c.if-c-eq-LINE.true c.requires.some_tree }

pub returns-in_err-e : goal.returns-in_err-e
returns-in_err-e c =
    walking-refused c.loop-i.invariant.1 c.cell_at-c.ensures.0 c.loop-i-test.true c.if-c-eq-LINE.true c.line.ensures c.in_err-e.was (raised c.from_residual.ensures)

pub loop-i-preserved : goal.loop-i-preserved
loop-i-preserved c =
    elim c.if-c-eq-LINE.branch [
      | then-c-eq-LINE+in_ok-e w ↦ rw (w.memory-is, w.table-is, w.lines-is, w.e-is) (
        lengths_then c.loop-i.invariant.0 w.line.ensures.lengths,
        walking_line c.loop-i.invariant.1 c.cell_at-c.ensures.0 c.loop-i-test.true w.if-c-eq-LINE.true w.line.ensures w.in_ok-e.was,
      )
      | else-c-eq-LINE w ↦ rw (w.memory-is, w.table-is, w.lines-is, w.e-is) (
        c.loop-i.invariant.0,
        walking-passed c.loop-i.invariant.1 c.cell_at-c.ensures.0 c.loop-i-test.true c.if-c-eq-HEADING.false w.if-c-eq-LINE.false,
      )
    ]

pub returns : goal.returns
returns c =
    walking-all c.loop-i.invariant.1 (omega (arith, c.loop-i-test.false))
