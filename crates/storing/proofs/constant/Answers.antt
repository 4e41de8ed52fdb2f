-- `constant` meets its contract: the word put is the constant's node.
use Rattle.storing.specs.StoringLaws.{constant_wrote}
use Rattle.storing.proofs.constant.Goals as goal

pub returns : goal.returns
returns c =
    constant_wrote c.args.kind c.requires.0 c.leaf-node.ensures c.put.ensures
