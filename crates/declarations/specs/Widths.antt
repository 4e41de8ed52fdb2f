-- The width of a signal or a bus at its turn.
use Rattle.std.specs.Prelude.{ℕ, zero, suc, ◌≤◌, Bool, ◌&&◌, List, [], ◌≡◌, leb, Ok, Err}
use Rattle.node.specs.Result.{Result, Done, Refused, guard}
use Rattle.node.specs.Returned.{Returned}
use Rattle.language.specs.Limits.{max_width}
use Rattle.language.specs.Tokens.{Token, tokens}
use Rattle.language.specs.Grammar.{Tokens}
use Rattle.language.specs.Tree.{Definition, Declaration, OneSignal, OfWidth, OfType, Spec}
use Rattle.language.specs.DeclaredNames.{Table, Port, words_of_type, port_of}
use Rattle.language.specs.Lists.{All}
use Rattle.language.specs.Listed.{declared_name}
use Rattle.language.proofs.Laws.Values.RegularWords.{RegularDefinition}
use Rattle.sets.specs.Answers.{says}
use Rattle.name_values.specs.Sorts as Sort
use Rattle.name_values.specs.Worked.{world_in}
use Rattle.notes.specs.Notes.{Notes}
use Rattle.notes.specs.Owned.{DeclarationAt}
use Rattle.memory_notes.specs.ShortTables.{ShortTable}
use Rattle.declarations.specs.Trees.{Tree}
use Rattle.declarations.specs.Expressions.{Room}
use Rattle.declarations.specs.Enumerations.{no_entry, Enumerates}

-- the words of a declaration's enumeration
abbrev pub words_for : List Definition → Declaration → List Token
words_for defs (OneSignal n) = []
words_for defs (OfWidth n e) = []
words_for defs (OfType u n) = words_of_type defs u

abbrev pub port_for : List Definition → Bool → Declaration → ℕ → Port
port_for defs output m n = record { name = declared_name m; output = output; width = n; words = words_for defs m }

-- the declaration m at entry k, its enumeration's entry e, and the table d before its turn
abbrev pub EnumeratedBy : Tokens → List ℕ → List Definition → Declaration → ℕ → Type 0
EnumeratedBy ts w defs (OneSignal n) e = e ≡ no_entry
EnumeratedBy ts w defs (OfWidth n b) e = e ≡ no_entry
EnumeratedBy ts w defs (OfType u n) e = Enumerates ts w e (words_of_type defs u)

pub record Sizing (text w refs found : List ℕ) (entries names : ℕ) (sorts numbers : List ℕ) (k e : ℕ) (x : Spec) (d : Table) (m : Declaration) : Type 0 where
  pub tree : Tree text w refs found entries names x
  pub regular : All RegularDefinition x.definitions
  pub there : DeclarationAt x text w refs m k
  pub enumerated : EnumeratedBy (tokens text) w x.definitions m e
  pub short : ShortTable d
  pub notes : Notes (tokens text) w (world_in x [] d) sorts numbers

pub record Sizable (text w refs sorts numbers mem table : List ℕ) (entries k e : ℕ) : Type 0 where
  pub found : List ℕ
  pub names : ℕ
  pub x : Spec
  pub d : Table
  pub m : Declaration
  pub sizing : Sizing text w refs found entries names sorts numbers k e x d m
  pub room : Room refs sorts numbers mem table entries

-- the answer
abbrev pub SizedBy : List Definition → Table → Declaration → Returned ℕ → Type 0
SizedBy defs d m (Ok n) = ((output : Bool) → port_of defs output d m ≡ Done (port_for defs output m n)) × (n ≤ max_width)
SizedBy defs d m (Err r) = (output : Bool) → port_of defs output d m ≡ Result.Refused r.number r.place

pub record Sizes (defs : List Definition) (d : Table) (m : Declaration) (r : Returned ℕ) : Type 0 where
  pub told : SizedBy defs d m r

-- 'width 0 or over 255'
pub record IsSized (n place : ℕ) (r : Returned ℕ) : Type 0 where
  pub is : says r ≡ guard (leb 1 n && leb n max_width) 13 place (Done n)
  pub same : (m : ℕ) → r ≡ Ok m → m ≡ n
  pub small : (m : ℕ) → r ≡ Ok m → m ≤ max_width

-- the note of a name after its turn
abbrev pub sort_of : ℕ → ℕ
sort_of zero = Sort.signal
sort_of (suc n) = Sort.bus
