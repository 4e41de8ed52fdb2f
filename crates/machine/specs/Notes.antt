-- What is noted of the declared names in the memory.
use Rattle.std.specs.Prelude.{ℕ, ◌+◌, ◌*◌, ◌≤◌, ◌<◌, List, ◌≡◌, length, get_or}
use Rattle.node.specs.Limits.{max_nodes, field_limit}
use Rattle.node.specs.Ltl.{Formula}
use Rattle.node.specs.Postorder.{size}
use Rattle.node.specs.Result.{Done}
use Rattle.language.specs.Limits.{max_names, max_signals}
use Rattle.language.specs.Tokens.{Token, tokens}
use Rattle.language.specs.Tree.{Expr}
use Rattle.language.specs.Values.{Set}
use Rattle.language.specs.DeclaredNames.{Single, BusOf}
use Rattle.language.specs.Numbering.{first_of}
use Rattle.language.specs.Expansion.{Context, expansion}
use Rattle.writing.specs.Parts.{Stands as StandsAt}
use Rattle.name_values.specs.World.{World, Meaning, Stands, Defines, NoValue, name_value, name_at, meaning_at}
use Rattle.name_values.specs.Facts.{IsNumber, IsBody, IsBus, IsIdentifier}
use Rattle.name_values.specs.Sorts as Sort
use Rattle.operands.specs.Working.{Source}
use Rattle.machine.specs.Fields.{note_number, note_address, note_mark}
use Rattle.machine.specs.Realm.{Realm}
use Rattle.machine.specs.Memory.{Regions, first_kept, slots_word, note_at, free_of, Held}
use Rattle.machine.specs.Telling.{Fine}

-- a definition's set is kept: how many elements, and where
pub record IsKeptSet (mem : List ℕ) (m : Meaning) (count address : ℕ) : Type 0 where
  pub set : List ℕ
  pub stands : (t : Token) → name_value m t ≡ Done (Set set)
  pub fine : Fine set
  pub size : count ≡ length set
  pub above : first_kept ≤ address
  pub below : address + count ≤ free_of mem
  pub held : Held mem address set

-- what is noted of a name that means m: its sort, a number, an address
pub record Fact (s : Source) (mem : List ℕ) (m : Meaning) (sort n address : ℕ) : Type 0 where
  pub sorted : sort ≤ Sort.nothing
  pub number : sort ≡ Sort.number → IsNumber m n
  pub body : sort ≡ Sort.body → IsBody m n
  pub bus : sort ≡ Sort.bus → IsBus m n
  pub signal : sort ≡ Sort.signal → m ≡ Stands Single
  pub set : sort ≡ Sort.set → IsKeptSet mem m n address
  pub identifier : sort ≡ Sort.identifier → IsIdentifier (tokens s.text) s.work m n
  pub nothing : sort ≡ Sort.nothing → m ≡ NoValue

-- the first signals of names that are signals; they are at most 255 in all
pub record Signals {s : Source} (R : Realm s) (mem : List ℕ) : Type 0 where
  pub single : (r : ℕ) → r < max_names → meaning_at R.W r ≡ Stands Single → (note_at mem r note_address ≡ first_of R.ports (name_at R.W r)) × (note_at mem r note_address < max_signals)
  pub bus : (r n : ℕ) → r < max_names → meaning_at R.W r ≡ Stands (BusOf n) → (note_at mem r note_address ≡ first_of R.ports (name_at R.W r)) × (note_at mem r note_address + n ≤ max_signals)

-- of every name; where kept sets end and slots begin. Signals have numbers unless there are too many: then the table counts as full from the start, by its index.
pub record Noted {s : Source} (R : Realm s) (z : Regions) (index : ℕ) (mem : List ℕ) : Type 0 where
  pub facts : (r : ℕ) → r < max_names → Fact s mem (meaning_at R.W r) (note_at mem r 0) (note_at mem r note_number) (note_at mem r note_address)
  pub signals : index ≤ max_nodes → Signals R mem
  pub first : first_kept ≤ free_of mem
  pub within : free_of mem ≤ z.slots
  pub slots_word_lem : get_or mem slots_word 0 ≡ z.slots
  pub ascending : z.slots ≤ z.floor

-- where a formula's nodes stand and how many they are, in one number that is not 0
abbrev pub marked : ℕ → ℕ → ℕ
marked from n = from * field_limit + n

-- the formula of the definition r, marked by v: its nodes stand in the table before `at`, as long as there is room in the table
pub record Lasts (W : World) (table : List ℕ) (at r v : ℕ) : Type 0 where
  pub formula : Formula
  pub given : (n : ℕ) (c : Context) (e : Expr) → meaning_at W r ≡ Defines n c e → expansion c e ≡ Done formula
  pub from : ℕ
  pub noted : at ≤ max_nodes → v ≡ marked from (size formula)
  pub before : at ≤ max_nodes → from + size formula ≤ at
  pub stands : at ≤ max_nodes → StandsAt formula table from

-- of every definition that is marked
pub record Lasting (W : World) (mem table : List ℕ) (at : ℕ) : Type 0 where
  pub lasts : (r : ℕ) → r < max_names → (note_at mem r note_mark ≡ 0 → ⊥) → Lasts W table at r (note_at mem r note_mark)
