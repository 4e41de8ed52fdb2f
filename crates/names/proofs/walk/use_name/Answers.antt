-- `names::walk::use_name` meets its contract: the walk over an entry that uses a name.
use Prim.Native.Nat.{min}
use mathlib.Core.Path.{refl, ap, ◌∙◌}
use Rattle.names.proofs.WalkEntries.{walk-use}
use Rattle.names.proofs.walk.use_name.Goals as goal

pub returns : goal.returns
returns c =
    record {
      next = refl;
      walking = λ h d s. walk-use h _ c.requires.0.inside refl d s c.requires.1 c.name_at-at.ensures c.from.ensures refl
          (c.min.ensures ∙ ap (min _) c.hidden_place-hidden.ensures);
    }
