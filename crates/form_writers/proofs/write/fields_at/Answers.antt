-- `fields_at` meets its contract: the fields of a node of the format.
use Rattle.node.proofs.TableLaws.{node-is}
use Rattle.form_writers.proofs.write.fields_at.Goals as goal

pub returns : goal.returns
returns c =
    node-is c.args.i c.kind.result c.first.result c.second.result c.requires.0 c.requires.1
    c.kind.ensures c.first.ensures c.second.ensures
