use borrow.Author.Rules.{rules}
use native.Mathlib.Omega.{arith}
use lib.ListN.{length-set}
use Rattle.layout.specs.Emitting.{measurable, measured-more}
use Rattle.layout.proofs.formula.measure.Goals as goal

pub loop-i-init : goal.loop-i-init
loop-i-init c = (omega arith, (search rules, λ j l. absurd (omega arith)))

pub node_size-size-requires : goal.node_size-size-requires
node_size-size-requires c =
    (c.requires.0, measurable c.requires.1 c.loop-i.i _ (omega arith) (omega (arith, c.requires.1.formed.few)))

pub offset_bounds-lens-i : goal.offset_bounds-lens-i
offset_bounds-lens-i c =
    omega (arith, c.requires.1.formed.few)

pub bounds-lens-i : goal.bounds-lens-i
bounds-lens-i c =
    omega (arith, c.requires.1.formed.few)

pub loop-i-preserved : goal.loop-i-preserved
loop-i-preserved c = (
  omega arith,
  (
    simp length-set c.loop-i.invariant.1.0,
    measured-more c.requires.1 c.loop-i.lens c.loop-i.i c.loop-i.invariant.1.1 (omega arith) (omega (arith, c.requires.1.formed.few)) c.node_size-size.ensures,
  ),
)

pub overflow_sub-result : goal.overflow_sub-result
overflow_sub-result c =
    omega (arith, c.requires.1.formed.some)

pub offset_bounds-lens-nodes : goal.offset_bounds-lens-nodes
offset_bounds-lens-nodes c =
    omega (arith, c.requires.1.formed.few)

pub bounds-lens-nodes : goal.bounds-lens-nodes
bounds-lens-nodes c =
    omega (arith, c.requires.1.formed.few, c.requires.1.formed.some)

pub returns : goal.returns
returns c =
    c.loop-i.invariant.1.1 _ (omega (arith, c.requires.1.formed.some))
