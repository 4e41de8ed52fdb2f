-- What the functions of the walk have in common: they ask for some state of the walk, and go from any state to the next.
use Rattle.std.specs.Prelude.{ℕ, ◌+◌, ◌<◌, List, ◌≡◌}
use Rattle.language.specs.Names.{Names}
use Rattle.names.specs.Tables.{no_place}
use Rattle.names.specs.Walkable.{Walkable}
use Rattle.names.specs.Walking.{Walking}
use Rattle.names.specs.declared.walk.Walk.{Walk}

-- before the entry that is next
abbrev pub Reaches : {w ids : List ℕ} {entries : ℕ} → Walkable w ids entries → Names → List ℕ → List ℕ → List ℕ → List ℕ → Walk → Type 0
Reaches h declared seen table stack refs walk = Walking h declared walk.next seen table stack refs walk.depth walk.hidden walk.again

-- that entry is one of some text
pub record Stands (w ids : List ℕ) (entries : ℕ) (seen table stack refs : List ℕ) (walk : Walk) : Type 0 where
  pub inside : walk.next < entries
  pub walkable : Walkable w ids entries
  pub declared : Names
  pub walking : Reaches walkable declared seen table stack refs walk

-- from every state before it to one behind it
pub record GoesOn (w ids : List ℕ) (entries : ℕ) (seen table stack refs : List ℕ) (walk : Walk) (seen' table' stack' refs' : List ℕ) (walk' : Walk) : Type 0 where
  pub next : walk'.next ≡ walk.next + 1
  pub walking : (h : Walkable w ids entries) (declared : Names) → Reaches h declared seen table stack refs walk → Reaches h declared seen' table' stack' refs' walk'

-- before the first
pub record Begins (w ids : List ℕ) (entries : ℕ) (seen table stack refs : List ℕ) : Type 0 where
  pub walkable : Walkable w ids entries
  pub declared : Names
  pub walking : Walking walkable declared 0 seen table stack refs 0 no_place no_place

-- from there to behind the last
pub record WalksAll (w ids : List ℕ) (entries : ℕ) (seen table stack refs seen' table' stack' refs' : List ℕ) (walk : Walk) : Type 0 where
  pub walking : (h : Walkable w ids entries) (declared : Names) → Walking h declared 0 seen table stack refs 0 no_place no_place
      → Walking h declared entries seen' table' stack' refs' walk.depth walk.hidden walk.again
