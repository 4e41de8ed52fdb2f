use mathlib.Core.Path.{sym, ◌∙◌}
use native.Mathlib.Omega.{arith}
use Rattle.types.specs.DeclaringLaws.{declared_none, declared-more, declared-all}
use Rattle.types.proofs.table.declare_all.Goals as goal

pub loop-i-init : goal.loop-i-init
loop-i-init c =
    declared_none c.args.refs.now c.args.work.now c.args.table.now c.requires.2

pub named_cell-requires : goal.named_cell-requires
named_cell-requires c =
    (c.requires.0, omega (arith, c.requires.1, c.loop-i-test.true), c.requires.3)

pub declare-requires : goal.declare-requires
declare-requires c = (c.named_cell.ensures.1, c.loop-i.invariant.size)

pub loop-i-preserved : goal.loop-i-preserved
loop-i-preserved c =
    declared-more _ c.named_cell.result c.loop-i.invariant c.named_cell.ensures.0 c.declare.ensures

pub shape_of-table : goal.shape_of-table
shape_of-table c =
    c.loop-i.invariant.size ∙ sym c.requires.2

pub returns : goal.returns
returns c =
    declared-all c.args.entries c.loop-i.invariant (omega arith) c.loop-i-test.false
