-- The memory, from word 0 on: notes of the declared names; two words that say where kept sets and slots are; kept sets; slots for the elements that big operators
-- have come to; values upwards; and frames of seven words from the end downwards.
use Rattle.std.specs.Prelude.{ℕ, suc, ◌+◌, ◌*◌, ◌≤◌, ◌<◌, List, [], ◌∷◌, ◌≡◌, length, get_or, drop}
use Rattle.language.specs.Limits.{max_names, max_elements}
use Rattle.machine.specs.declared.Words.{Words}

-- a note: which sort of name it is; a number; an address or the first signal; where a definition's nodes stand
abbrev pub note_words : ℕ
note_words = 4

abbrev pub free_word : ℕ
free_word = note_words * max_names

abbrev pub slots_word : ℕ
slots_word = free_word + 1

abbrev pub first_kept : ℕ
first_kept = slots_word + 1

abbrev pub frame_words : ℕ
frame_words = 7

-- the words of a set, with one more that stands for every larger size
abbrev pub set_words : ℕ
set_words = suc max_elements

-- what stays free above the values: a set that comes, and one that is made of it
abbrev pub spare : ℕ
spare = 2 * set_words

-- what a frame may hold: two sets
abbrev pub reserve : ℕ
reserve = 2 * set_words

abbrev pub note_at : List ℕ → ℕ → ℕ → ℕ
note_at mem r j = get_or mem (note_words * r + j) 0

-- where the next kept set goes
abbrev pub free_of : List ℕ → ℕ
free_of mem = get_or mem free_word 0

-- numbers stand from `at` on
unfoldable pub Held : List ℕ → ℕ → List ℕ → Type 0
Held mem at [] = Unit {0}
Held mem at (x ∷ s) = (get_or mem at 0 ≡ x) × Held mem (suc at) s

-- elements that big operators have come to, the innermost first, the outermost one's in slot `first`
unfoldable pub Slotted : List ℕ → ℕ → List ℕ → Type 0
Slotted mem first [] = Unit {0}
Slotted mem first (v ∷ env) = (get_or mem (first + length env) 0 ≡ v) × Slotted mem first env

-- n words from `at` on are safe while a stack stands whose values lie from `base` to `top`: they are none, a kept set's, or values
pub data Lies (free base top at n : ℕ) : Type 0 where
  nowhere : n ≡ 0 → Lies free base top at n
  kept_set : first_kept ≤ at → at + n ≤ free → Lies free base top at n
  value : base ≤ at → at + n ≤ top → Lies free base top at n

-- where the n elements of a set that has come stand: in a kept set, or from `top` on
pub data Sits (free top at n : ℕ) : Type 0 where
  in_kept : first_kept ≤ at → at + n ≤ free → Sits free top at n
  on_top : at ≡ top → Sits free top at n

-- where slots begin, and values
pub record Regions : Type 0 where
  pub slots : ℕ
  pub floor : ℕ

-- kept sets stay, and others may be kept
pub record Keeps (mem mem' : List ℕ) : Type 0 where
  pub more : free_of mem ≤ free_of mem'
  pub kept : (i : ℕ) → first_kept ≤ i → i < free_of mem → get_or mem' i 0 ≡ get_or mem i 0

-- two memories that agree in all that a stack uses
pub record Agree (z : Regions) (mem mem' : List ℕ) (depth top at : ℕ) : Type 0 where
  pub len : length mem' ≡ length mem
  pub more : free_of mem ≤ free_of mem'
  pub kept : (i : ℕ) → first_kept ≤ i → i < free_of mem → get_or mem' i 0 ≡ get_or mem i 0
  pub slots : (i : ℕ) → z.slots ≤ i → i < depth → get_or mem' i 0 ≡ get_or mem i 0
  pub values : (i : ℕ) → z.floor ≤ i → i < top → get_or mem' i 0 ≡ get_or mem i 0
  pub frames : drop at mem' ≡ drop at mem

-- a frame's words before others
abbrev pub spread : Words → List ℕ → List ℕ
spread w l = w.phase ∷ w.entry ∷ w.base ∷ w.at ∷ w.count ∷ w.value ∷ w.other ∷ l

-- they are written at `at`
pub record Framed (mem mem' : List ℕ) (at : ℕ) (w : Words) : Type 0 where
  pub len : length mem' ≡ length mem
  pub words : drop at mem' ≡ spread w (drop (at + frame_words) mem)
  pub below : (i : ℕ) → i < at → get_or mem' i 0 ≡ get_or mem i 0
