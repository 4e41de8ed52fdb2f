-- The nodes are copied; past the last node nothing is.
use native.Mathlib.Omega.{arith}
use Rattle.name_steps.specs.MarkLaws.{again-past, again_copied}
use Rattle.name_steps.proofs.marks.again.Goals as goal

pub returns-then-at-gt-MAX_NODES : goal.returns-then-at-gt-MAX_NODES
returns-then-at-gt-MAX_NODES c = again-past c.if-at-gt-MAX_NODES.true (omega arith)

pub copy-requires : goal.copy-requires
copy-requires c = (c.requires.within c.if-at-gt-MAX_NODES.false, c.requires.before c.if-at-gt-MAX_NODES.false)

pub returns : goal.returns
returns c = again_copied c.if-at-gt-MAX_NODES.false c.copy.ensures
