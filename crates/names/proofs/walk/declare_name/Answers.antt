-- `names::walk::declare_name` meets its contract: the walk over an entry that declares a name.
use mathlib.Core.Path.{refl}
use Rattle.names.proofs.WalkEntries.{walk-declare}
use Rattle.names.proofs.walk.declare_name.Goals as goal

pub returns : goal.returns
returns c =
    record {
      next = refl;
      walking = λ h d s. walk-declare h _ c.requires.0.inside refl d s c.requires.1 c.name_at-at.ensures c.from.ensures refl c.min.ensures;
    }
