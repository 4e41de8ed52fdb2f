-- `signal` meets its contract: the word put is the signal's node.
use Rattle.storing.specs.StoringLaws.{signal-wrote}
use Rattle.storing.proofs.signal.Goals as goal

pub returns : goal.returns
returns c =
    signal-wrote c.args.k c.unary-node.ensures c.put.ensures
