use mathlib.Core.Path.{◌≡◌}
use native.Mathlib.Numerals.{add-one}
use native.Mathlib.Omega.{arith}
use Rattle.writing.specs.PartLaws.{moves_none, moves_next, fitting, moves-all, moves-past}
use Rattle.writing.proofs.copies.copy_from.Goals as goal

pub returns-then-size-at : goal.returns-then-size-at
returns-then-size-at c = moves-past c.args.from c.args.at c.args.size _ (omega arith) (omega arith)

pub loop-i-init : goal.loop-i-init
loop-i-init c = moves_none c.args.from c.args.at _

pub moved-word-requires : goal.moved-word-requires
moved-word-requires c = (omega arith, omega arith)

pub loop-i-preserved : goal.loop-i-preserved
loop-i-preserved c =
    rw add-one (moves_next c.args.from c.args.at c.loop-i.i _ _ c.loop-i.invariant c.moved-word.ensures (fitting c.put.ensures (omega arith)).words)

pub returns : goal.returns
returns c =
    let e : c.loop-i.i ≡ c.args.size = omega arith in
    moves-all c.args.from c.args.at c.loop-i.i c.args.size _ _ e c.loop-i.invariant (omega arith)
