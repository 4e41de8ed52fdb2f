use native.Mathlib.Omega.{arith}
use mathlib.Core.Path.{refl, sym, ◌∙◌}
use Rattle.expressions.specs.StackLaws.{trees_first, start_first, start_none}
use Rattle.expressions.proofs.stack.start_of.Goals as goal

pub loop-left-init : goal.loop-left-init
loop-left-init c = let pre = c.requires in (pre.few, pre.room, pre.trees, refl)

pub overflow_sub-start : goal.overflow_sub-start
overflow_sub-start c =
    let l = c.loop-left in let first = trees_first c.args.work.now l.start l.left (omega arith) l.invariant.2 in omega arith

pub overflow_add-start : goal.overflow_add-start
overflow_add-start c =
    let l = c.loop-left in let first = trees_first c.args.work.now l.start l.left (omega arith) l.invariant.2 in omega arith

pub get-requires : goal.get-requires
get-requires c =
    let l = c.loop-left in let first = trees_first c.args.work.now l.start l.left (omega arith) l.invariant.2 in omega (arith, l.invariant.1, l.invariant.0)

pub overflow_sub-start-in-loop-left : goal.overflow_sub-start-in-loop-left
overflow_sub-start-in-loop-left c =
    let l = c.loop-left in let first = trees_first c.args.work.now l.start l.left (omega arith) l.invariant.2 in rw c.get.ensures first.1

pub loop-left-preserved : goal.loop-left-preserved
loop-left-preserved c =
    let l = c.loop-left in let first = trees_first c.args.work.now l.start l.left (omega arith) l.invariant.2 in rw c.get.ensures
    (omega (arith, l.invariant.0), l.invariant.1, first.2, sym (start_first c.args.work.now l.start l.left (omega arith)) ∙ l.invariant.3)

pub returns : goal.returns
returns c =
    let l = c.loop-left in sym (start_none c.args.work.now l.start l.left (omega arith)) ∙ l.invariant.3
