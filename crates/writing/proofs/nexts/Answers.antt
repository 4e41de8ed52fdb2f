use native.Mathlib.Numerals.{add-one}
use native.Mathlib.Omega.{arith}
use mathlib.Core.Path.{◌≡◌, sym}
use Rattle.writing.specs.StepLaws.{nexts-start, nexts-more, nexts_none}
use Rattle.writing.proofs.nexts.Goals as goal

pub loop-i-init : goal.loop-i-init
loop-i-init c = nexts-start

pub returns-then-r-gt-MAX_NODES : goal.returns-then-r-gt-MAX_NODES
returns-then-r-gt-MAX_NODES c = nexts_none c.loop-i.i c.args.n c.loop-i.invariant (omega arith) (omega arith) (omega arith)

pub loop-i-preserved : goal.loop-i-preserved
loop-i-preserved c = rw add-one (nexts-more c.loop-i.i c.loop-i.invariant c.cap-r.ensures)

pub returns : goal.returns
returns c = let e : c.loop-i.i ≡ c.args.n = omega arith in rw (sym e) c.loop-i.invariant
