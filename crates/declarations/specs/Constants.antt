-- Parameters, worked out in order: each changes the table, and its own note.
use Rattle.std.specs.Prelude.{ℕ, ◌≤◌, List, [], ◌≡◌, length, Ok, Err}
use Rattle.node.specs.Result.{Result, Done, Refused}
use Rattle.node.specs.Returned.{Returned}
use Rattle.declarations.specs.declared.evaluate.Names.{Names}
use Rattle.language.specs.Limits.{max_names}
use Rattle.language.specs.Tokens.{tokens}
use Rattle.language.specs.Tree.{Spec}
use Rattle.language.specs.DeclaredNames.{Table, constants}
use Rattle.name_values.specs.Worked.{world_in}
use Rattle.notes.specs.Notes.{Notes}
use Rattle.notes.specs.Owned.{ParameterAt}
use Rattle.memory_notes.specs.ShortTables.{ShortTable}
use Rattle.declarations.specs.Along.{Along}
use Rattle.declarations.specs.Turnable.{Turnable}
use Rattle.declarations.specs.Trees.{Tree}
use Rattle.declarations.specs.Expressions.{Room}

-- the parameters of x in order, their entries in `order`, and the table d before them
pub record Parameters (text w refs found : List ℕ) (entries names : ℕ) (order : List ℕ) (count : ℕ) (sorts numbers : List ℕ) (x : Spec) (d : Table) : Type 0 where
  pub tree : Tree text w refs found entries names x
  pub places : Along (λ p k. ParameterAt x text w refs p k × Turnable x p.name) order 0 x.parameters
  pub total : length x.parameters ≡ count
  pub short : ShortTable d
  pub notes : Notes (tokens text) w (world_in x [] d) sorts numbers

pub record ParametersGiven (text w refs order : List ℕ) (count : ℕ) (sorts numbers mem table : List ℕ) (entries : ℕ) : Type 0 where
  pub found : List ℕ
  pub names : ℕ
  pub x : Spec
  pub d : Table
  pub parameters : Parameters text w refs found entries names order count sorts numbers x d
  pub room : Room refs sorts numbers mem table entries
  pub few : count ≤ max_names

-- the answer
abbrev pub Constants : List ℕ → List ℕ → Spec → Table → Returned Names → Type 0
Constants text w x d (Ok a) = (t : Table) × (constants x.parameters d ≡ Done t) × Notes (tokens text) w (world_in x [] t) a.sorts a.numbers
Constants text w x d (Err r) = constants x.parameters d ≡ Result.Refused r.number r.place

pub record ConstantsTold (text w : List ℕ) (x : Spec) (d : Table) (r : Returned Names) : Type 0 where
  pub told : Constants text w x d r
