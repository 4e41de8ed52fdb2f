-- The names that get a value or a width at their turn: they are declared, and no definition defines one.
use Rattle.std.specs.Prelude.{true, ◌≡◌}
use Rattle.language.specs.Tokens.{Token}
use Rattle.language.specs.Tree.{Spec}
use Rattle.language.specs.Names.{visible}
use Rattle.language.specs.Lists.{All}
use Rattle.names.specs.Resolved.{declared_names as allNames}
use Rattle.name_values.specs.Worlds.{Elsewhere}

pub record Turnable (x : Spec) (t : Token) : Type 0 where
  pub shown : visible (allNames x) t ≡ true
  pub undefined : All (Elsewhere t) x.definitions
