-- `hand_over_shifted` meets its contract: the whole formula is assembled, converted and delivered.
use Prim.Native.Nat.{ℕ}
use lib.ListN.{length-replicate}
use Rattle.node.specs.Limits.{max_nodes}
use Rattle.ending.proofs.HandingLaws.{hands_shifted}
use Rattle.ending.proofs.hand_over_shifted.Goals as goal

pub returns : goal.returns
returns c =
    let zeros = length-replicate {A = ℕ} max_nodes 0 in
    hands_shifted c.assemble-m.ensures zeros c.args.outputs zeros c.shift-k.ensures c.deliver.ensures
