-- `assumed` meets its contract: its operators go over the sections that were written.
use mathlib.Core.Path.{refl}
use Rattle.node.specs.Operators.{G, And}
use Rattle.language.specs.Tree.{Require, Assume}
use Rattle.assembly.proofs.assumed.Goals as goal

pub returns : goal.returns
returns c =
    λ ss l. c.join.ensures.wrote And refl ((c.cap-always.ensures G refl _).wrote (c.section-r.ensures Require refl ss l)) (c.section-s.ensures Assume refl ss l)
