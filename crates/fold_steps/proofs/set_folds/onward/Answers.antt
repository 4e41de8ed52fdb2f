-- `set_folds::onward` meets its contract: the set is the answer where no element is left; else it is kept behind those that are, and the next one is at hand.
use Rattle.machine.specs.Fields.{base_field, at_field}
use native.Mathlib.Omega.{arith}
use Prim.Native.Nat.{◌+◌}
use mathlib.Core.Path.{refl}
use Rattle.fold_steps.specs.FoldPlaces.{foldable-continuing, foldable-lowers, foldable-lowered}
use Rattle.fold_steps.specs.FoldingSets.{kept_end, low_end, kept_on, low_on}
use Rattle.fold_steps.proofs.set_folds.onward.Goals as goal

pub overflow_cast-base : goal.overflow_cast-base
overflow_cast-base c =
    omega (arith, c.type_inv.memory (c.args.m.frames + base_field))

pub overflow_cast-rest : goal.overflow_cast-rest
overflow_cast-rest c =
    omega (arith, c.type_inv.memory (c.args.m.frames + at_field))

pub returns-then-from-base : goal.returns-then-from-base
returns-then-from-base c =
    let at-if1 = c.if-count-eq0 in
    let at-if2 = c.if-from-base in
    let at_ended = c.ended in
    kept_end at-if1.true at-if2.true refl at_ended.ensures

pub returns-then-count-eq0 : goal.returns-then-count-eq0
returns-then-count-eq0 c =
    let at-if1 = c.if-count-eq0 in
    let at-if2 = c.if-from-base in
    let at-lower = c.lower in
    let at-ended2 = c.ended-then-count-eq0 in
    low_end at-if1.true (let u = at-if2.false in omega arith) at-lower.ensures at-ended2.ensures

pub behind-low-requires : goal.behind-low-requires
behind-low-requires c =
    let f = c.requires.few in omega arith

pub again-requires : goal.again-requires
again-requires c =
    let at-if1 = c.if-count-eq0 in
    foldable-continuing c.requires (let z = at-if1.false in omega arith)

pub returns-then-from-base-2 : goal.returns-then-from-base-2
returns-then-from-base-2 c =
    let at-if1 = c.if-count-eq0 in
    let at-behind = c.behind-low in
    let at_again = c.again in
    kept_on (let z = at-if1.false in omega arith) at-behind.ensures c.if-from-base-2.true refl at_again.ensures

pub lower-requires-2 : goal.lower-requires-2
lower-requires-2 c =
    let at-if1 = c.if-count-eq0 in
    let at-behind = c.behind-low in
    let l = foldable-lowers c.requires (let z = at-if1.false in omega arith) at-behind.ensures (let u = c.if-from-base-2.false in omega arith) in (l.down, l.inside)

pub overflow_add-low : goal.overflow_add-low
overflow_add-low c =
    let at-if1 = c.if-count-eq0 in
    let at-behind = c.behind-low in
    let l = foldable-lowers c.requires (let z = at-if1.false in omega arith) at-behind.ensures (let u = c.if-from-base-2.false in omega arith) in let a = l.fits in let b = l.small in omega arith

pub again-requires-2 : goal.again-requires-2
again-requires-2 c =
    let at-if1 = c.if-count-eq0 in
    let at-behind = c.behind-low in
    foldable-lowered c.requires (let z = at-if1.false in omega arith) at-behind.ensures (let u = c.if-from-base-2.false in omega arith) c.lower-2.ensures

pub returns : goal.returns
returns c =
    let at-if1 = c.if-count-eq0 in
    let at-behind = c.behind-low in
    low_on (let z = at-if1.false in omega arith) at-behind.ensures (let u = c.if-from-base-2.false in omega arith) c.lower-2.ensures refl c.again-2.ensures
