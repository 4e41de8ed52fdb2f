use borrow.Author.Rules.{rules}
use native.Mathlib.Omega.{arith}
use mathlib.Core.Path.{◌∙◌}
use Rattle.layout.specs.Emitting.{emits_start, emits_room, emits_kept, emits_turn, emits_on, emits_end}
use Rattle.layout.proofs.formula.put_formula.Goals as goal

pub overflow_sub-stack : goal.overflow_sub-stack
overflow_sub-stack c =
    omega (arith, c.requires.pieces_value.1.formed.some)

pub overflow_cast-stack : goal.overflow_cast-stack
overflow_cast-stack c =
    omega (arith, c.requires.pieces_value.1.formed.few)

pub loop-height-init : goal.loop-height-init
loop-height-init c =
    (search rules, emits_start c.requires.pieces_value.1 (search rules) (search rules))

pub step-turned-requires : goal.step-turned-requires
step-turned-requires c =
    record {
      pieces_value = (c.requires.pieces_value.0, (c.requires.pieces_value.1, (c.loop-height.invariant.1.stacked, c.loop-height-test.true)));
      height_in_bounds = omega
          (arith, emits_kept c.loop-height.invariant.1, emits_room c.loop-height.invariant.1 _ c.requires.nodes_in_bounds);
    }

pub loop-height-smaller : goal.loop-height-smaller
loop-height-smaller c =
    let o = emits_on c.loop-height.invariant.1 _ c.requires.nodes_in_bounds c.step-turned.ensures in
    omega (arith, o.0, o.1)

pub loop-height-preserved : goal.loop-height-preserved
loop-height-preserved c =
    (c.step-turned.ensures.kept ∙ c.loop-height.invariant.0, emits_turn c.loop-height.invariant.1 c.step-turned.ensures)

pub shape_of-out : goal.shape_of-out
shape_of-out c =
    emits_kept c.loop-height.invariant.1

pub returns : goal.returns
returns c =
    emits_end c.loop-height.invariant.1 (omega arith)
