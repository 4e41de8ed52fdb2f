-- Inputs are sized, then outputs.
use Rattle.std.specs.Prelude.{ℕ, ◌+◌, ◌≤◌, true, false, List, [], ◌≡◌, length, Ok, Err}
use Rattle.node.specs.Result.{Result, Done, Refused, ◌>>=◌}
use Rattle.node.specs.Returned.{Returned}
use Rattle.declarations.specs.declared.turns.Sized.{Sized}
use Rattle.language.specs.Limits.{max_names}
use Rattle.language.specs.Tokens.{tokens}
use Rattle.language.specs.Tree.{Spec}
use Rattle.language.specs.DeclaredNames.{Table, turns, inputs, outputs, Declarations}
use Rattle.language.specs.Lists.{All}
use Rattle.language.specs.RegularWords.{RegularDefinition}
use Rattle.name_values.specs.Worked.{world_in}
use Rattle.notes.specs.Notes.{Notes}
use Rattle.memory_notes.specs.ShortTables.{ShortTable}
use Rattle.declarations.specs.Trees.{Tree}
use Rattle.declarations.specs.Expressions.{Room}
use Rattle.declarations.specs.Turns.{PlacedFrom, WidthsFrom}

-- the ports of x, in `places`, and the table d before any of them is sized
pub record Sizings (text w refs found : List ℕ) (entries names : ℕ) (places enumerations : List ℕ) (ins count : ℕ) (sorts numbers : List ℕ) (x : Spec) (d : Table) : Type 0 where
  pub tree : Tree text w refs found entries names x
  pub regular : All RegularDefinition x.definitions
  pub ins_placed : PlacedFrom x text w refs places enumerations 0 (inputs x.main)
  pub outs_placed : PlacedFrom x text w refs places enumerations ins (outputs x.main)
  pub ins_total : length (inputs x.main) ≡ ins
  pub outs_total : ins + length (outputs x.main) ≡ count
  pub short : ShortTable d
  pub notes : Notes (tokens text) w (world_in x [] d) sorts numbers

pub record SizesGiven (text w refs places enumerations : List ℕ) (ins count : ℕ) (sorts numbers mem table : List ℕ) (entries : ℕ) : Type 0 where
  pub found : List ℕ
  pub names : ℕ
  pub x : Spec
  pub d : Table
  pub sizings : Sizings text w refs found entries names places enumerations ins count sorts numbers x d
  pub room : Room refs sorts numbers mem table entries
  pub few : count ≤ max_names

-- what is left of `declarations` behind the parameters
abbrev pub sized_all : Spec → Table → Result Declarations
sized_all x d =
    turns x.definitions false (inputs x.main) d >>= λ i. turns x.definitions true (outputs x.main) i.table >>= λ o.
    Done (record { table = o.table; inputs = i.ports; outputs = o.ports })

-- the answer
abbrev pub SizesAre : List ℕ → List ℕ → Spec → Table → ℕ → Returned Sized → Type 0
SizesAre text w x d ins (Ok a) =
    (D : Declarations) × (sized_all x d ≡ Done D) × Notes (tokens text) w (world_in x [] D.table) a.names.sorts a.names.numbers × WidthsFrom a.widths 0 D.inputs × WidthsFrom a.widths ins D.outputs
SizesAre text w x d ins (Err r) = sized_all x d ≡ Result.Refused r.number r.place

pub record SizesTold (text w : List ℕ) (x : Spec) (d : Table) (ins : ℕ) (r : Returned Sized) : Type 0 where
  pub told : SizesAre text w x d ins r
