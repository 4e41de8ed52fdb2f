-- `names::walk::bind_name` meets its contract: the walk over a big operator's name.
use Prim.Native.Nat.{min, max}
use mathlib.Core.Path.{refl, ap, ◌∙◌}
use native.Mathlib.Omega.{arith}
use lib.ListN.{length-set}
use Rattle.names.proofs.WalkBinders.{walk-bind}
use Rattle.names.proofs.walk.bind_name.Goals as goal

pub bounds-stack-top-2 : goal.bounds-stack-top-2
bounds-stack-top-2 c =
    simp length-set (let a = c.requires.0.walking.stack_room in let b = c.requires.0.walking.small in let i = c.requires.0.inside in omega arith)

pub bounds-stack-top-3 : goal.bounds-stack-top-3
bounds-stack-top-3 c =
    simp length-set (let a = c.requires.0.walking.stack_room in let b = c.requires.0.walking.small in let i = c.requires.0.inside in omega arith)

pub returns : goal.returns
returns c =
    let at = c.name_at-at.result.at in
    record {
      next = refl;
      walking = λ h d s. walk-bind h d _ c.requires.0.inside refl s c.requires.1 c.name_at-at.ensures refl refl
          (c.min.ensures ∙ ap (λ v. min v at) c.from-place.ensures) refl
          (c.min-2.ensures ∙ ap (min _) (c.max.ensures ∙ ap (λ v. max v at) c.from-place.ensures));
    }
