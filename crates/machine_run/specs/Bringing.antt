-- An entry in a memory of its own: where it begins there, and what is brought back.
use Rattle.std.specs.Prelude.{ℕ, suc, ◌+◌, ◌*◌, ◌≤◌, ◌<◌, List, ◌≡◌, length, get_or, drop}
use Rattle.language.specs.Limits.{max_names}
use Rattle.name_values.specs.Sorts as Sort
use Rattle.machine.specs.Memory.{note_words, free_word, slots_word, first_kept, set_words, note_at}
use Rattle.machine.specs.Telling.{is_set}
use Rattle.machine.specs.declared.Machine.{Machine}

-- the note r is that of the source where there was a body
pub record NoteBrought (source mem mem' : List ℕ) (r : ℕ) : Type 0 where
  pub len : length mem' ≡ length mem
  pub body : note_at mem r 0 ≡ Sort.body → (j : ℕ) → j < note_words → note_at mem' r j ≡ note_at source r j
  pub other : (note_at mem r 0 ≡ Sort.body → ⊥) → (j : ℕ) → j < note_words → note_at mem' r j ≡ note_at mem r j
  pub below : (i : ℕ) → i < note_words * r → get_or mem' i 0 ≡ get_or mem i 0
  pub above : (i : ℕ) → note_words * suc r ≤ i → drop i mem' ≡ drop i mem

-- so are those of the first n names
pub record Renoted (source mem mem' : List ℕ) (n : ℕ) : Type 0 where
  pub len : length mem' ≡ length mem
  pub body : (r : ℕ) → r < n → note_at mem r 0 ≡ Sort.body → (j : ℕ) → j < note_words → note_at mem' r j ≡ note_at source r j
  pub other : (r : ℕ) → r < n → (note_at mem r 0 ≡ Sort.body → ⊥) → (j : ℕ) → j < note_words → note_at mem' r j ≡ note_at mem r j
  pub above : (i : ℕ) → note_words * n ≤ i → drop i mem' ≡ drop i mem

abbrev slots_of : List ℕ → ℕ
slots_of mem = get_or mem slots_word 0

-- the entry of m begins in a memory of so many words
abbrev pub outset : Machine → ℕ → Machine
outset m words =
    record { mode = m.mode; value = m.value; from = 0; scope = m.scope; depth = m.depth; top = m.depth + m.value + 1; frames = words; nodes = m.nodes }

-- what has come in the state n, in the memory of m
abbrev pub returned : Machine → Machine → ℕ → Machine
returned m n from =
    record { mode = n.mode; value = n.value; from = from; scope = m.scope; depth = m.depth; top = m.top; frames = m.frames; nodes = n.nodes }

-- slots begin behind the notes; what is brought fits
pub record Bringable (source mem : List ℕ) (m n : Machine) : Type 0 where
  pub first : first_kept ≤ slots_of mem
  pub values : slots_of mem ≤ m.top
  pub source_long : slots_of mem ≤ length source
  pub room : m.top + set_words ≤ length mem
  pub few : n.mode ≡ is_set → n.value < set_words
  pub source-set : n.mode ≡ is_set → n.from + n.value ≤ length source

-- kept sets lie from the two words behind the notes up to the slots
pub record Brought (source mem mem' : List ℕ) (m n r : Machine) : Type 0 where
  pub len : length mem' ≡ length mem
  pub from : ℕ
  pub next : r ≡ returned m n from
  pub body : (r : ℕ) → r < max_names → note_at mem r 0 ≡ Sort.body → (j : ℕ) → j < note_words → note_at mem' r j ≡ note_at source r j
  pub other : (r : ℕ) → r < max_names → (note_at mem r 0 ≡ Sort.body → ⊥) → (j : ℕ) → j < note_words → note_at mem' r j ≡ note_at mem r j
  pub kept : (i : ℕ) → free_word ≤ i → i < slots_of mem → get_or mem' i 0 ≡ get_or source i 0
  pub between : (i : ℕ) → slots_of mem ≤ i → i < m.top → get_or mem' i 0 ≡ get_or mem i 0
  pub above : (i : ℕ) → m.top + set_words ≤ i → drop i mem' ≡ drop i mem
  pub set-from : n.mode ≡ is_set → from ≡ m.top
  pub set : n.mode ≡ is_set → (i : ℕ) → i < n.value → get_or mem' (m.top + i) 0 ≡ get_or source (n.from + i) 0
  pub same_from : (n.mode ≡ is_set → ⊥) → from ≡ n.from
