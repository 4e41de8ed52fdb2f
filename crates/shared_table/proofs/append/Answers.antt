-- `shared_table::append` meets its contract: there is no room, or the index grows by one node.
use mathlib.Core.Path.{refl}
use native.Mathlib.Omega.{arith}
use lib.ListN.{length-set}
use Rattle.shared_table.specs.GrowthLaws.{grown}
use Rattle.shared_table.specs.PutLaws.{sought_inside, puts-many, puts-short, puts-new}
use Rattle.shared_table.proofs.append.Goals as goal

pub returns-then-next-gt-MAX_NODES : goal.returns-then-next-gt-MAX_NODES
returns-then-next-gt-MAX_NODES c = puts-many c.requires refl c.if-next-gt-MAX_NODES.true

pub returns-then-out-place : goal.returns-then-out-place
returns-then-out-place c = puts-short c.requires refl c.if-out-place.true

pub bounds-out-place-2 : goal.bounds-out-place-2
bounds-out-place-2 c = simp length-set (omega arith)

pub bounds-out-place-3 : goal.bounds-out-place-3
bounds-out-place-3 c = simp length-set (omega arith)

pub offset_bounds-out-link : goal.offset_bounds-out-link
offset_bounds-out-link c = let i = sought_inside c.requires in record { fits = omega arith }

pub bounds-out-link : goal.bounds-out-link
bounds-out-link c = let i = sought_inside c.requires in simp length-set (omega arith)

pub bounds-out-0-2 : goal.bounds-out-0-2
bounds-out-0-2 c = simp length-set (omega arith)

pub returns : goal.returns
unfolding grown
returns c = puts-new c.requires refl c.if-next-gt-MAX_NODES.false c.if-out-place.false
