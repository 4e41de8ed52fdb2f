-- `leaf` meets its contract: the laws of Leaves, at the two ends of the code.
use mathlib.Core.Path.{sym, ◌∙◌}
use Rattle.node.proofs.ReturnedLaws.{raised}
use Rattle.parser.proofs.Laws.Leaves.{leaf-refused, leaf-read, leaf-writes}
use Rattle.parser.proofs.Laws.Passing.{passed}
use Rattle.parser.proofs.leaves.leaf.Goals as goal

pub returns-in_err-d : goal.returns-in_err-d
returns-in_err-d c =
    rw (raised c.from_residual.ensures ∙ sym c.in_err-d.was)
    (λ k names ts ready. leaf-refused ready names c.expect.ensures c.in_err-d.was)

pub emit-requires : goal.emit-requires
emit-requires c =
    leaf-writes c.requires.0.ready c.requires.2 c.requires.1 (passed _ _ _ c.expect.ensures c.in_ok-d.was)

pub returns : goal.returns
returns c =
    λ k names ts ready. leaf-read ready names _ c.requires.2 c.requires.1 (passed _ _ _ c.expect.ensures c.in_ok-d.was) c.emit.ensures.1 c.emit.ensures.0
