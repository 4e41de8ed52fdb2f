use mathlib.Core.Path.{◌≡◌, refl, sym}
use lib.ListN.{length-set}
use native.Mathlib.Numerals.{add-one}
use native.Mathlib.Omega.{arith}
use Rattle.writing.specs.PartLaws.{moves_none, moves_next}
use Rattle.writing.proofs.copies.copy_out.Goals as goal

pub loop-i-init : goal.loop-i-init
loop-i-init c = (refl, moves_none c.args.from c.args.at _)

pub moved-word-requires : goal.moved-word-requires
moved-word-requires c = (omega arith, omega arith)

pub loop-i-preserved : goal.loop-i-preserved
loop-i-preserved c =
    let m = moves_next c.args.from c.args.at c.loop-i.i _ _ c.loop-i.invariant.1 c.moved-word.ensures refl in
    (simp length-set c.loop-i.invariant.0, rw add-one m)

pub shape_of-res : goal.shape_of-res
shape_of-res c = c.loop-i.invariant.0

pub returns : goal.returns
returns c = let e : c.loop-i.i ≡ c.args.size = omega arith in rw (sym e) c.loop-i.invariant.1
