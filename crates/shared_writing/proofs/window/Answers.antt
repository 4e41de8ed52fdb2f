use mathlib.Core.Path.{◌≡◌}
use native.Mathlib.Numerals.{add-one}
use native.Mathlib.Omega.{arith}
use Rattle.shared_writing.specs.StayLaws.{stays_then, stays_shared}
use Rattle.shared_writing.specs.WindowLaws.{chains_start, chains_more, chains_none, windowed}
use Rattle.shared_writing.proofs.window.Goals as goal

pub loop-i-init : goal.loop-i-init
loop-i-init c = chains_start

pub returns-then-r-gt-MAX_NODES : goal.returns-then-r-gt-MAX_NODES
returns-then-r-gt-MAX_NODES c =
    windowed c.args.n (chains_none c.loop-i.i c.args.n c.loop-i.invariant (omega arith) (omega arith) (omega arith))

pub cap-later-requires : goal.cap-later-requires
cap-later-requires c =
    (omega arith, stays_shared c.loop-i.invariant.stays c.requires.1)

pub join-r-requires : goal.join-r-requires
join-r-requires c =
    (omega arith, stays_shared (stays_then c.loop-i.invariant.stays c.cap-later.ensures.stays) c.requires.1)

pub loop-i-preserved : goal.loop-i-preserved
loop-i-preserved c =
    rw add-one (chains_more c.loop-i.i c.loop-i.invariant c.cap-later.ensures c.join-r.ensures)

pub returns : goal.returns
returns c =
    let n = c.args.n in
    let e : c.loop-i.i ≡ n = omega arith in
    windowed n (rw e at c.loop-i.invariant)
