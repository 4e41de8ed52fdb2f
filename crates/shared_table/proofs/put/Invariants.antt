-- `shared_table::put` meets its contract: a node that is the word lies ahead of `link`, and each link lies behind the one before.
use Prim.Native.Nat.{◌-◌}
use lib.ListN.{length}
use Rattle.shared_table.specs.PutLaws.{Looking}
use Rattle.shared_table.proofs.put.Given as goal

abbrev pub invariant-loop-at : goal.invariant-loop-at
invariant-loop-at l = Looking l.out l.word l.link l.bits l.at

abbrev pub decreases-loop-at : goal.decreases-loop-at
decreases-loop-at l = length l.out - l.link
