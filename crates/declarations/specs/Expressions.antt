-- An expression that is worked out with what is noted of the names at that time. The notes are laid anew for each, so that nothing kept for it outlives a change of
-- the table.
use Rattle.std.specs.Prelude.{ℕ, ◌+◌, ◌≤◌, ◌<◌, List, [], ◌≡◌, length, Ok}
use Rattle.node.specs.Limits.{max_nodes}
use Rattle.node.specs.Returned.{Returned}
use Rattle.declarations.specs.declared.evaluate.Names.{Names}
use Rattle.language.specs.Limits.{max_names, max_tokens}
use Rattle.language.specs.Tokens.{tokens}
use Rattle.language.specs.Tree.{Expr}
use Rattle.language.specs.Values.{value}
use Rattle.language.specs.Expansion.{Context}
use Rattle.operands.specs.Working.{source, TellsNumber}
use Rattle.notes.specs.Notes.{Notes}
use Rattle.machine.specs.Memory.{frame_words, reserve, spare, first_kept}
use Rattle.machine.specs.Realm.{Operand, Realm}
use Rattle.machine_run.specs.Running.{max_memory, smaller}
use Rattle.memory_notes.specs.Laid.{last_slots}

-- the memory and the table of nodes, with room for a text of so many entries
pub record MemoryRoom (mem table : List ℕ) (entries : ℕ) : Type 0 where
  pub sized : length table ≡ max_nodes
  pub kept : first_kept ≤ last_slots (length mem)
  pub room : last_slots (length mem) + entries + (frame_words + reserve + spare + entries) ≤ smaller (length mem)
  pub most : length mem ≤ max_memory

pub record Room (refs sorts numbers mem table : List ℕ) (entries : ℕ) : Type 0 where
  pub refs_room : max_tokens ≤ length refs
  pub sorts_full : length sorts ≡ max_names
  pub numbers_full : length numbers ≡ max_names
  pub memory : MemoryRoom mem table entries

-- the expression e at entry k, outside every big operator
pub record Expression (text w refs sorts numbers : List ℕ) (k : ℕ) (R : Realm (source text w refs)) (c : Context) (e : Expr) : Type 0 where
  pub operand : Operand (source text w refs) R.W R.ports [] c k e
  pub notes : Notes (tokens text) w R.W sorts numbers

-- there is one, and room to work it out
pub record Workable (text w refs sorts numbers mem table : List ℕ) (entries k : ℕ) : Type 0 where
  pub R : Realm (source text w refs)
  pub c : Context
  pub e : Expr
  pub expression : Expression text w refs sorts numbers k R c e
  pub room : Room refs sorts numbers mem table entries
  pub few : entries ≤ max_tokens
  pub inside : k < entries

-- the table has its length where a value is answered
abbrev pub LengthKept : {A : Type 0} → List ℕ → List ℕ → Returned A → Type 0
LengthKept {A} table table' r = (a : A) → r ≡ Ok a → length table' ≡ length table

-- and the notes have theirs
pub record Lengths (table table' : List ℕ) (r : Returned Names) : Type 0 where
  pub table_kept : LengthKept table table' r
  pub sorts_full : (a : Names) → r ≡ Ok a → length a.sorts ≡ max_names
  pub numbers_full : (a : Names) → r ≡ Ok a → length a.numbers ≡ max_names

-- of whatever expression stands there, the number that it is
pub record Numbered (text w refs sorts numbers table table' : List ℕ) (k : ℕ) (r : Returned ℕ) : Type 0 where
  pub same : LengthKept table table' r
  pub tells : (R : Realm (source text w refs)) (c : Context) (e : Expr) → Expression text w refs sorts numbers k R c e → TellsNumber r (value c.values e)
