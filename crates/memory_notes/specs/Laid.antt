-- The notes of declared names in the machine's memory, where nothing is kept and no definition is marked.
use Rattle.std.specs.Prelude.{ℕ, min, ◌+◌, ◌≤◌, ◌<◌, ◌/◌, List, ◌≡◌, length, get_or}
use Rattle.language.specs.Limits.{max_names, max_signals}
use Rattle.language.specs.DeclaredNames.{Port, Single, BusOf}
use Rattle.language.specs.Numbering.{first_of}
use Rattle.name_values.specs.World.{World, Stands, name_at, meaning_at}
use Rattle.machine.specs.Memory.{first_kept, slots_word, note_at, free_of}

-- slots begin in the middle of the memory at the latest, and not after this word: what lies before it has room for the notes and for a full set of nearly every name
abbrev pub most_slots : ℕ
most_slots = 65_536

abbrev pub last_slots : ℕ → ℕ
last_slots n = min (n / 2) most_slots

-- each name's sort, number and first signal, by its number
pub record Laid (mem sorts numbers firsts : List ℕ) : Type 0 where
  pub sort : (r : ℕ) → r < max_names → note_at mem r 0 ≡ get_or sorts r 0
  pub number : (r : ℕ) → r < max_names → note_at mem r 1 ≡ get_or numbers r 0
  pub first : (r : ℕ) → r < max_names → note_at mem r 2 ≡ get_or firsts r 0
  pub mark : (r : ℕ) → r < max_names → note_at mem r 3 ≡ 0
  pub free : free_of mem ≡ first_kept
  pub behind : first_kept ≤ get_or mem slots_word 0
  pub early : get_or mem slots_word 0 ≤ last_slots (length mem)

-- the first signals of names that are signals, by the names' numbers; they are at most 255 in all
pub record FirstSignals (ps : List Port) (W : World) (firsts : List ℕ) : Type 0 where
  pub single : (r : ℕ) → r < max_names → meaning_at W r ≡ Stands Single → (get_or firsts r 0 ≡ first_of ps (name_at W r)) × (get_or firsts r 0 < max_signals)
  pub bus : (r n : ℕ) → r < max_names → meaning_at W r ≡ Stands (BusOf n) → (get_or firsts r 0 ≡ first_of ps (name_at W r)) × (get_or firsts r 0 + n ≤ max_signals)
