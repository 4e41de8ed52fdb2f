-- `promised` meets its contract: its operators go over the sections that were written.
use mathlib.Core.Path.{refl}
use Rattle.node.specs.Operators.{G, And}
use Rattle.language.specs.Tree.{Assert, Guarantee}
use Rattle.assembly.proofs.promised.Goals as goal

pub returns-then-strict : goal.returns-then-strict
returns-then-strict c =
    λ ss l. rw c.if-strict.true (c.section.ensures Guarantee refl ss l)

pub returns : goal.returns
returns c =
    λ ss l. rw c.if-strict.false
    (c.join.ensures.wrote And refl ((c.cap-always.ensures G refl _).wrote (c.section-a.ensures Assert refl ss l)) (c.section-u.ensures Guarantee refl ss l))
