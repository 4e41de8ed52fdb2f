use native.Mathlib.Omega.{arith}
use Rattle.std.proofs.lemmas.List.{get_or-take}
use Rattle.shifting.specs.NodeLaws.{write_some}
use Rattle.shifting.specs.LoopLaws.{passing_none, passing-words, passing-next, shift_many, shift_past, shift-all}
use Rattle.shifting.proofs.shift.Goals as goal

pub returns-then-m-gt-MAX_NODES : goal.returns-then-m-gt-MAX_NODES
returns-then-m-gt-MAX_NODES c = shift_many _ _ _ (omega (arith, c.if-m-gt-MAX_NODES.true)) (omega arith)

pub loop-i-init : goal.loop-i-init
loop-i-init c = passing_none _ _ _

pub renumbered-requires : goal.renumbered-requires
renumbered-requires c = c.loop-i.invariant.held

pub returns-then-at-gt-MAX_NODES : goal.returns-then-at-gt-MAX_NODES
returns-then-at-gt-MAX_NODES c =
    shift_past _ _ _ (omega (arith, c.if-m-gt-MAX_NODES.false))
    (passing-words c.loop-i.invariant (get_or-take c.args.m c.args.table.now c.loop-i.i 0 (omega (arith, c.loop-i-test.true))) c.is_late-late.ensures c.renumbered.ensures c.write-at.ensures)
    (omega (arith, c.if-at-gt-MAX_NODES.true)) (omega (arith, c.loop-i-test.true)) (omega arith)

pub overflow_sub-numbers : goal.overflow_sub-numbers
overflow_sub-numbers c = omega (arith, write_some _ _ c.write-at.ensures (omega (arith, c.if-at-gt-MAX_NODES.false)))

pub loop-i-preserved : goal.loop-i-preserved
loop-i-preserved c =
    passing-next c.loop-i.invariant (get_or-take c.args.m c.args.table.now c.loop-i.i 0 (omega (arith, c.loop-i-test.true))) c.is_late-late.ensures c.renumbered.ensures c.write-at.ensures
    (omega (arith, c.if-at-gt-MAX_NODES.false)) (omega (arith, c.loop-i-test.true))

pub returns : goal.returns
returns c =
    shift-all _ _ _ (omega (arith, c.if-m-gt-MAX_NODES.false)) c.loop-i.invariant (omega (arith, c.loop-i-test.false))
