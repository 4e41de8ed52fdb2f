-- `preset` meets its contract: its operators go over the sections that were written.
use mathlib.Core.Path.{refl}
use Rattle.node.specs.Operators.{Not, And, W}
use Rattle.language.specs.Tree.{Preset, Assert, Require}
use Rattle.assembly.proofs.preset.Goals as goal

pub returns-then-not-strict : goal.returns-then-not-strict
returns-then-not-strict c =
    λ ss l. rw c.if-not-strict.true (c.section-p.ensures Preset refl ss l)

pub returns : goal.returns
returns c =
    λ ss l.
    let w = c.join-weak.ensures.wrote W refl (c.section-a.ensures Assert refl ss l)
    ((c.cap-not.ensures Not refl _).wrote (c.section-r.ensures Require refl ss l)) in
    rw c.if-not-strict.false (c.join.ensures.wrote And refl (c.section-p.ensures Preset refl ss l) w)
