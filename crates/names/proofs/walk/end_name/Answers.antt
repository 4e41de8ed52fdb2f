-- `names::walk::end_name` meets its contract: the walk over the end of a big operator.
use mathlib.Core.Path.{refl}
use native.Mathlib.Omega.{arith}
use Rattle.names.proofs.WalkBinders.{some-open, end-inside, walk_end}
use Rattle.names.proofs.walk.end_name.Goals as goal

pub overflow_sub-depth : goal.overflow_sub-depth
overflow_sub-depth c =
    let o = some-open c.requires.0.walkable c.requires.0.declared _ c.requires.0.inside refl c.requires.0.walking c.requires.1 in omega arith

pub bounds-seen-id : goal.bounds-seen-id
bounds-seen-id c =
    let f = end-inside c.requires.0.walkable c.requires.0.declared _ c.requires.0.inside refl c.requires.0.walking c.requires.1 c.from-id.ensures in
    let r = c.requires.0.walking.shown.room in omega arith

pub bounds-table-id : goal.bounds-table-id
bounds-table-id c =
    let f = end-inside c.requires.0.walkable c.requires.0.declared _ c.requires.0.inside refl c.requires.0.walking c.requires.1 c.from-id.ensures in
    let r = c.requires.0.walking.points.room in omega arith

pub returns : goal.returns
returns c =
    record { next = refl; walking = λ h d s. walk_end h d _ c.requires.0.inside refl s c.requires.1 c.from-id.ensures refl refl }
