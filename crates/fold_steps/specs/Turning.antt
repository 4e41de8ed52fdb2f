-- A big operator's name comes to the first element, to a further one, and to none: the frame's words, the next state, and what must hold before.
use Rattle.std.specs.Prelude.{ℕ, ◌+◌, ◌-◌, ◌≤◌, ◌<◌, ◌^◌, List, ◌≡◌, length, get_or, set}
use Rattle.language.specs.Limits.{max_elements}
use Rattle.machine.specs.Fields.{entry_field, at_field, count_field}
use Rattle.machine.specs.Memory.{frame_words, Framed}
use Rattle.machine.specs.declared.Words.{Words}
use Rattle.machine.specs.declared.Machine.{Machine}

-- the next state: the name's slot is the last one, and entry j is worked out above `top`
abbrev pub turned : Machine → (mode j slot top nodes : ℕ) → Machine
turned m mode j slot top nodes = record { mode = mode; value = j; from = 0; scope = m.scope; depth = slot + 1; top = top; frames = m.frames; nodes = nodes }

-- what function `turn` does
pub record Turns (mem mem' : List ℕ) (m : Machine) (w : Words) (slot v mode top : ℕ) (n : Machine) : Type 0 where
  pub framed : Framed (set mem slot v) mem' m.frames w
  pub next : n ≡ turned m mode (w.entry - 1) slot top m.nodes

-- the words of the frame at the first element: it holds the others
abbrev pub begun_at : Machine → (entry phase : ℕ) → Words
begun_at m entry phase = record { phase = phase; entry = entry; base = m.top; at = m.from + 1; count = m.value - 1; value = 0; other = 0 }

abbrev pub begun : List ℕ → Machine → ℕ → Words
begun mem m phase = begun_at m (get_or mem (m.frames + entry_field) 0) phase

-- what function `begin` asks for
pub record Beginning (mem : List ℕ) (m : Machine) : Type 0 where
  pub inside : m.frames + frame_words ≤ length mem
  pub small : length mem < 2 ^ 32
  pub some : 0 < m.value
  pub few : m.value ≤ max_elements
  pub from : m.from < length mem
  pub slot : m.depth < length mem
  pub top : m.top < length mem
  pub entry : 0 < get_or mem (m.frames + entry_field) 0

-- a frame's words as they are read; those of the frame at the next element
abbrev pub words_at : List ℕ → ℕ → Words
words_at mem at = record {
  phase = get_or mem at 0;
  entry = get_or mem (at + 1) 0;
  base = get_or mem (at + 2) 0;
  at = get_or mem (at + 3) 0;
  count = get_or mem (at + 4) 0;
  value = get_or mem (at + 5) 0;
  other = get_or mem (at + 6) 0;
}

abbrev pub next_at : Words → (phase value other : ℕ) → Words
next_at w phase value other = record { phase = phase; entry = w.entry; base = w.base; at = w.at + 1; count = w.count - 1; value = value; other = other }

-- what function `again` asks for
pub record Continuing (mem : List ℕ) (m : Machine) (other : ℕ) : Type 0 where
  pub inside : m.frames + frame_words ≤ length mem
  pub small : length mem < 2 ^ 32
  pub some : 0 < get_or mem (m.frames + count_field) 0
  pub from : get_or mem (m.frames + at_field) 0 < length mem
  pub bound : 0 < m.depth
  pub slot : m.depth ≤ length mem
  pub entry : 0 < get_or mem (m.frames + entry_field) 0
  pub numbered : other < 2 ^ 32

-- no element is left: the name's slot is free again
abbrev pub unbound : Machine → (mode value from base : ℕ) → Machine
unbound m mode value from base =
    record { mode = mode; value = value; from = from; scope = m.scope; depth = m.depth - 1; top = base; frames = m.frames + frame_words; nodes = m.nodes }
