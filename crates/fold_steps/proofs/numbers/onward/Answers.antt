-- `numbers::onward` meets its contract: the number is the answer where no element is left; else the next one is at hand.
use Rattle.machine.specs.Fields.{base_field}
use native.Mathlib.Omega.{arith}
use Prim.Native.Nat.{◌+◌}
use mathlib.Core.Path.{refl}
use Rattle.fold_steps.specs.FoldingNumbers.{ended, going}
use Rattle.fold_steps.proofs.numbers.onward.Goals as goal

pub overflow_cast-result : goal.overflow_cast-result
overflow_cast-result c =
    omega (arith, c.type_inv.memory (c.args.m.frames + base_field))

pub returns-then-memory-at-eq0 : goal.returns-then-memory-at-eq0
returns-then-memory-at-eq0 c =
    let at-if1 = c.if-memory-at-eq0 in
    ended at-if1.true refl refl

pub again-requires : goal.again-requires
again-requires c =
    let at-if1 = c.if-memory-at-eq0 in
    c.requires.next (let z = at-if1.false in omega arith)

pub returns : goal.returns
returns c =
    let at-if1 = c.if-memory-at-eq0 in
    let at_again = c.again in
    going (let z = at-if1.false in omega arith) refl at_again.ensures
