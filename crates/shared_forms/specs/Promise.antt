-- What `build` promises of a formula f, the root's in its form: that it stands in the array with all its distinct subformulas and nothing else, or that there is no room for them.
use Rattle.std.specs.Prelude.{ℕ, ◌-◌, ◌≤◌, ◌<◌, length}
use mathlib.Core.List.{List, Memᴰ}
use Rattle.node.specs.Limits.{max_nodes}
use Rattle.node.specs.Ltl.{Formula}
use Rattle.sharing.specs.Sharing.{distinct_count}
use Rattle.sharing.proofs.StandsLaws.{Stands}
use Rattle.sharing.specs.Subformulas.{postorder}
use Rattle.sharing.proofs.SoundLaws.{Sound}
use Rattle.shared_table.specs.Shared.{capacity, Shares}

-- The array holds a table of the format without equal nodes, all of them subformulas of f, in which f stands with number r - 1
pub record Built (f : Formula) (out : List ℕ) (r : ℕ) : Type 0 where
  pub table : List ℕ
  pub shares : Shares out table
  pub sound : Sound (λ g. Memᴰ g (postorder f)) table
  pub some : 1 ≤ r
  pub stands : Stands table f (r - 1)

-- or it has room for fewer nodes than f has distinct subformulas
pub record Builds (f : Formula) (out out' : List ℕ) (r : ℕ) : Type 0 where
  pub done : r ≤ max_nodes → Built f out' r
  pub refused : max_nodes < r → capacity (length out) < distinct_count f
