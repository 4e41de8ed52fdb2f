-- A text's tree as the stages before leave it: stored, and its names resolved.
use Rattle.std.specs.Prelude.{ℕ, List}
use Rattle.language.specs.Tree.{Spec}
use Rattle.names.specs.Resolved.{Stored, Resolved}

pub record Tree (text w refs found : List ℕ) (entries names : ℕ) (x : Spec) : Type 0 where
  pub count : ℕ
  pub stored : Stored text w count entries x
  pub resolved : Resolved x refs found names
