use native.Mathlib.Omega.{arith}
use Rattle.choices.specs.PromiseLaws.{matching_none, matching-skip, matching-word, matching-all, one_of-past}
use Rattle.choices.proofs.one_of.Goals as goal

pub returns-then-at-gt-MAX_NODES : goal.returns-then-at-gt-MAX_NODES
returns-then-at-gt-MAX_NODES c = one_of-past c.if-at-gt-MAX_NODES.true (omega arith)

pub loop-i-init : goal.loop-i-init
loop-i-init c = matching_none _ _ _ _ _ _ _

pub cell_at-c-requires : goal.cell_at-c-requires
cell_at-c-requires c =
    (c.requires.0.room, omega (arith, c.requires.0.few, c.loop-i-test.true))

pub loop-i-preserved-then-c-ne-WORD : goal.loop-i-preserved-then-c-ne-WORD
loop-i-preserved-then-c-ne-WORD c =
    matching-skip c.loop-i.invariant c.loop-i-test.true c.cell_at-c.ensures.0 c.if-c-ne-WORD.true

pub matches-r-requires : goal.matches-r-requires
matches-r-requires c =
    c.requires.1 c.if-at-gt-MAX_NODES.false

pub loop-i-preserved : goal.loop-i-preserved
loop-i-preserved c =
    matching-word c.loop-i.invariant c.loop-i-test.true c.cell_at-c.ensures.0 c.if-c-ne-WORD.false c.matches-r.ensures c.further-f.ensures

pub returns : goal.returns
returns c =
    matching-all c.loop-i.invariant c.loop-i-test.false c.if-at-gt-MAX_NODES.false c.finish.ensures
