-- `hand_over` meets its contract: the whole formula is assembled and delivered.
use Prim.Native.Nat.{ℕ}
use lib.ListN.{length-replicate}
use Rattle.node.specs.Limits.{max_nodes}
use Rattle.ending.proofs.HandingLaws.{hands_expanded}
use Rattle.ending.proofs.hand_over.Goals as goal

pub returns : goal.returns
returns c =
    hands_expanded c.assemble-m.ensures (length-replicate {A = ℕ} max_nodes 0) c.deliver.ensures
