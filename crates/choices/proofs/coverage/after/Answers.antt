use native.Mathlib.Omega.{arith}
use mathlib.Core.Path.{sym, ◌∙◌}
use Rattle.choices.specs.CoverageLaws.{keeping_none, keeping-row, keeping-not, keeping_all}
use Rattle.choices.proofs.coverage.after.Goals as goal
use Rattle.choices.proofs.coverage.after.Goals.{then-admits, else-admits}

pub loop-row-init : goal.loop-row-init
loop-row-init c = keeping_none _ _ _ _ _ c.requires.1.0

pub loop-row-preserved : goal.loop-row-preserved
loop-row-preserved c =
    let full = c.told-rows c.loop-row.row-index c.loop-row-test.true in
    elim c.if-admits.branch [
      | then-admits w ↦
          rw (w.kept-is, w.k-is)
          (keeping-row c.requires.0 c.requires.1.1.0 c.requires.1.1.1 c.loop-row.invariant c.loop-row-test.true full (sym c.admits.ensures ∙ w.if-admits.true))
      | else-admits w ↦
          rw (w.kept-is, w.k-is)
          (keeping-not c.requires.0 c.requires.1.1.0 c.requires.1.1.1 c.loop-row.invariant c.loop-row-test.true full (sym c.admits.ensures ∙ w.if-admits.false))
    ]

pub returns : goal.returns
returns c = keeping_all c.loop-row.invariant (omega arith)
