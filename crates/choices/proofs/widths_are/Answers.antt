use native.Mathlib.Omega.{arith}
use mathlib.Core.Path.{refl, sym, ◌∙◌}
use Rattle.choices.specs.PromiseLaws.{widths_none, widths-skip, widths-same, widths-other, widths_are}
use Rattle.choices.proofs.widths_are.Goals as goal

pub loop-i-init : goal.loop-i-init
loop-i-init c = refl

pub cell_at-c-requires : goal.cell_at-c-requires
cell_at-c-requires c =
    (c.requires.room, omega (arith, c.requires.few, c.loop-i-test.true))

pub loop-i-preserved-then-c-ne-WORD : goal.loop-i-preserved-then-c-ne-WORD
loop-i-preserved-then-c-ne-WORD c =
    sym (widths-skip c.args.work.now c.loop-i.i c.args.to c.args.n c.loop-i-test.true c.cell_at-c.ensures.0 c.if-c-ne-WORD.true) ∙
    c.loop-i.invariant

pub returns-then-c-n : goal.returns-then-c-n
returns-then-c-n c =
    widths_are (sym (widths-other c.args.work.now c.loop-i.i c.args.to c.args.n c.loop-i-test.true c.cell_at-c.ensures.0
    c.if-c-ne-WORD.false c.if-c-n.true) ∙ c.loop-i.invariant)

pub loop-i-preserved : goal.loop-i-preserved
loop-i-preserved c =
    sym (widths-same c.args.work.now c.loop-i.i c.args.to c.args.n c.loop-i-test.true c.cell_at-c.ensures.0 c.if-c-ne-WORD.false
    c.if-c-n.false) ∙ c.loop-i.invariant

pub returns : goal.returns
returns c =
    widths_are (widths_none c.args.work.now c.loop-i.i c.args.to c.args.n c.loop-i-test.false ∙ c.loop-i.invariant)
