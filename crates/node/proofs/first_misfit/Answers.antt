use mathlib.Core.Path.{◌∙◌}
use native.Mathlib.Omega.{arith}
use Rattle.node.proofs.TableLaws.{misfit-inside, misfit-after, scan_good, scan-bad}
use Rattle.node.proofs.first_misfit.Goals as goal

pub returns-then-not-node_fits : goal.returns-then-not-node_fits
returns-then-not-node_fits c =
    let a = c.args in
    (omega arith, c.loop-i.invariant.1 ∙ scan-bad a.limit a.nodes.now c.loop-i.i _ (omega arith) c.node_fits.ensures c.if-not-node_fits.true)

pub loop-i-preserved : goal.loop-i-preserved
loop-i-preserved c =
    let a = c.args in
    let e = c.node_fits.ensures in (
      misfit-after a.limit a.nodes.now c.loop-i.i e c.if-not-node_fits.false c.loop-i.invariant.0,
      c.loop-i.invariant.1 ∙ scan_good a.limit a.nodes.now c.loop-i.i _ (omega arith) e c.if-not-node_fits.false,
    )

pub returns : goal.returns
returns c = let h = misfit-inside c.args.limit c.args.nodes.now c.loop-i.i c.loop-i.invariant.0 in absurd (omega arith)
