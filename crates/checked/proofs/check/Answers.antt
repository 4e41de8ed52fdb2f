-- `check` meets its contract: the outline's refusal, that of refusals 5 to 10, or the tree that the outline holds.
use Rattle.node.proofs.ReturnedLaws.{raised}
use Rattle.checked.specs.Joining.{handed_up, tree, checks, not-formed}
use Rattle.checked.proofs.check.Goals as goal

pub returns-in_err-outline : goal.returns-in_err-outline
returns-in_err-outline c = rw (raised c.from_residual.ensures) (handed_up c.outlined.ensures _ _ c.in_err-outline.was)

pub formed-requires : goal.formed-requires
formed-requires c =
    (tree c.outlined.ensures c.in_ok-outline.was c.requires.0, c.requires.1, c.requires.2)

pub returns-in_err-names : goal.returns-in_err-names
returns-in_err-names c =
    rw (raised c.from_residual-in_err-names.ensures)
    (not-formed c.outlined.ensures c.in_ok-outline.was c.requires.0 c.formed.ensures c.in_err-names.was)

pub returns : goal.returns
returns c =
    checks c.outlined.ensures c.in_ok-outline.was c.requires.0 c.formed.ensures c.in_ok-names.was
