-- `each::onward` meets its contract: the frame is gone where no element is left; else the next one is at hand.
use Rattle.machine.specs.Fields.{base_field}
use Prim.Native.Nat.{◌+◌}
use native.Mathlib.Omega.{arith}
use Rattle.each_steps.specs.OnwardLaws.{onward-last, onward_asks, onward-more}
use Rattle.each_steps.proofs.each.onward.Goals as goal

pub overflow_cast-base : goal.overflow_cast-base
overflow_cast-base c =
    omega (arith, c.type_inv.memory (c.args.m.frames + base_field))

pub returns-then-memory-at-eq0 : goal.returns-then-memory-at-eq0
returns-then-memory-at-eq0 c =
    let at-if1 = c.if-memory-at-eq0 in
    let at-closed = c.closed in
    onward-last {mem = c.args.memory.now} {m = c.args.m} at-if1.true at-closed.ensures

pub again-requires : goal.again-requires
again-requires c =
    let at-if1 = c.if-memory-at-eq0 in
    let at-wrote = c.wrote in
    onward_asks at-if1.false at-wrote.ensures c.requires

pub returns : goal.returns
returns c =
    let at-if1 = c.if-memory-at-eq0 in
    let at-wrote = c.wrote in
    let at_again = c.again in
    onward-more at-if1.false at-wrote.ensures at_again.ensures
