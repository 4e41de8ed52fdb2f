-- Signals and buses, each sized at its own turn: the table changes, and the name's own note.
use Rattle.std.specs.Prelude.{ℕ, suc, ◌+◌, ◌≤◌, ◌<◌, Bool, List, [], ◌∷◌, ◌≡◌, length, get_or, Ok, Err}
use Rattle.node.specs.Result.{Result, Done, Refused}
use Rattle.node.specs.Returned.{Returned}
use Rattle.declarations.specs.declared.turns.Sized.{Sized}
use Rattle.language.specs.Limits.{max_names, max_width}
use Rattle.language.specs.Tokens.{tokens}
use Rattle.language.specs.Tree.{Declaration, Spec}
use Rattle.language.specs.DeclaredNames.{Table, Port, Turns, turns}
use Rattle.language.specs.Lists.{All}
use Rattle.language.specs.Listed.{declared_name}
use Rattle.language.specs.RegularWords.{RegularDefinition}
use Rattle.name_values.specs.Worked.{world_in}
use Rattle.notes.specs.Notes.{Notes}
use Rattle.notes.specs.Owned.{DeclarationAt}
use Rattle.memory_notes.specs.ShortTables.{ShortTable}
use Rattle.declarations.specs.Turnable.{Turnable}
use Rattle.declarations.specs.Trees.{Tree}
use Rattle.declarations.specs.Expressions.{Room, LengthKept}
use Rattle.declarations.specs.Widths.{EnumeratedBy}

-- the declaration m at a position: its own entry k, its enumeration's entry e
pub record Placed (x : Spec) (text w refs : List ℕ) (m : Declaration) (k e : ℕ) : Type 0 where
  pub there : DeclarationAt x text w refs m k
  pub turnable : Turnable x (declared_name m)
  pub enumerated : EnumeratedBy (tokens text) w x.definitions m e

-- those from position j on
abbrev pub PlacedFrom : Spec → List ℕ → List ℕ → List ℕ → (places enumerations : List ℕ) → ℕ → List Declaration → Type 0
PlacedFrom x text w refs places enumerations j [] = Unit {0}
PlacedFrom x text w refs places enumerations j (m ∷ ms) = Placed x text w refs m (get_or places j 0) (get_or enumerations j 0) × PlacedFrom x text w refs places enumerations (suc j) ms

-- the widths of ports from position j on
abbrev pub WidthsFrom : List ℕ → ℕ → List Port → Type 0
WidthsFrom widths j [] = Unit {0}
WidthsFrom widths j (p ∷ ps) = ((get_or widths j 0 ≡ p.width) × (p.width ≤ max_width)) × WidthsFrom widths (suc j) ps

-- the declarations ds of one heading at the positions from `from` to `to`, and the table d before them
pub record Declared (text w refs found : List ℕ) (entries names : ℕ) (places enumerations : List ℕ) (from to : ℕ) (sorts numbers : List ℕ) (x : Spec) (ds : List Declaration) (d : Table) : Type 0 where
  pub tree : Tree text w refs found entries names x
  pub regular : All RegularDefinition x.definitions
  pub placed : PlacedFrom x text w refs places enumerations from ds
  pub total : from + length ds ≡ to
  pub short : ShortTable d
  pub notes : Notes (tokens text) w (world_in x [] d) sorts numbers

pub record TurnsGiven (text w refs places enumerations : List ℕ) (from to : ℕ) (sorts numbers widths mem table : List ℕ) (entries : ℕ) : Type 0 where
  pub found : List ℕ
  pub names : ℕ
  pub x : Spec
  pub ds : List Declaration
  pub d : Table
  pub declared : Declared text w refs found entries names places enumerations from to sorts numbers x ds d
  pub room : Room refs sorts numbers mem table entries
  pub few : to ≤ max_names
  pub widths_full : length widths ≡ max_names

-- the widths below a position are as before
abbrev pub Before : ℕ → List ℕ → List ℕ → Type 0
Before n old new = (i : ℕ) → i < n → get_or new i 0 ≡ get_or old i 0

-- .. as they are after the turns
abbrev pub StayBefore : ℕ → List ℕ → Returned Sized → Type 0
StayBefore n old r = (a : Sized) → r ≡ Ok a → Before n old a.widths

-- the table has its length where all are sized, and so have the notes and the widths
pub record SizedLengths (table table' : List ℕ) (r : Returned Sized) : Type 0 where
  pub table_kept : LengthKept table table' r
  pub sorts_full : (a : Sized) → r ≡ Ok a → length a.names.sorts ≡ max_names
  pub numbers_full : (a : Sized) → r ≡ Ok a → length a.names.numbers ≡ max_names
  pub widths_full : (a : Sized) → r ≡ Ok a → length a.widths ≡ max_names

-- the answer
abbrev pub Turned : List ℕ → List ℕ → Spec → Bool → List Declaration → Table → ℕ → Returned Sized → Type 0
Turned text w x output ds d from (Ok a) =
    (s : Turns) × (turns x.definitions output ds d ≡ Done s) × Notes (tokens text) w (world_in x [] s.table) a.names.sorts a.names.numbers × WidthsFrom a.widths from s.ports
Turned text w x output ds d from (Err r) = turns x.definitions output ds d ≡ Result.Refused r.number r.place

pub record TurnsTold (text w : List ℕ) (x : Spec) (output : Bool) (ds : List Declaration) (d : Table) (from : ℕ) (r : Returned Sized) : Type 0 where
  pub told : Turned text w x output ds d from r
