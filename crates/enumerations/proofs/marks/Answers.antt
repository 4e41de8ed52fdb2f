use Rattle.enumerations.specs.RowLaws.{bytes-all, bytes-more}
use mathlib.Core.Path.{refl, ◌∙◌}
use native.Mathlib.Omega.{arith}
use lib.ListN.{length-set}
use Rattle.enumerations.specs.Pass.{bytes_at}
use Rattle.enumerations.proofs.marks.Goals as goal

pub loop-i-init : goal.loop-i-init
unfolding bytes_at
loop-i-init c = (refl, refl)

pub overflow_add-at : goal.overflow_add-at
overflow_add-at c =
    omega (arith, c.loop-i-test.true, c.requires.0, c.requires.1)

pub bounds-row-i : goal.bounds-row-i
bounds-row-i c = omega (arith, c.loop-i-test.true, c.requires.0)

pub loop-i-preserved : goal.loop-i-preserved
loop-i-preserved c = (
  bytes-more c.args.text.now c.args.at c.loop-i.i c.byte_at.result c.loop-i.row c.loop-i.invariant.0
      (omega (arith, c.loop-i-test.true, c.requires.0, c.loop-i.invariant.1)) c.byte_at.ensures,
  length-set c.loop-i.row c.loop-i.i c.byte_at.result ∙
      c.loop-i.invariant.1,
)

pub returns : goal.returns
returns c = (
  bytes-all c.args.text.now c.args.at c.loop-i.i c.args.n c.loop-i.row c.loop-i.invariant.0 (omega arith)
      c.loop-i-test.false,
  c.loop-i.invariant.1,
)
