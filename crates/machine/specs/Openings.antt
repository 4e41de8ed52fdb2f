-- An operator's frame is pushed, if there is room for it; it is written anew, where one operand has come and the next is worked out.
use Rattle.std.specs.Prelude.{ℕ, ◌+◌, ◌-◌, ◌≤◌, ◌<◌, List, ◌≡◌, length, get_or, Ok, Err}
use Rattle.machine.specs.declared.Move.TheVariants.{Next, Short}
use Rattle.machine.specs.Stepped.{Stepped}
use Rattle.language.specs.Limits.{max_tokens, work_bytes}
use Rattle.operands.specs.Entries.{size_at}
use Rattle.machine.specs.Fields.{entry_field}
use Rattle.machine.specs.Memory.{frame_words, spare, reserve, Framed}
use Rattle.machine.specs.Moves.{came}
use Rattle.machine.specs.declared.Words.{Words}
use Rattle.machine.specs.declared.Machine.{Machine}

-- a frame that holds nothing yet
abbrev pub open_words : Machine → ℕ → Words
open_words m phase = record { phase = phase; entry = m.value; base = m.top; at = 0; count = 0; value = 0; other = 0 }

-- under it the entry j is worked out
abbrev pub opened : Machine → (mode j : ℕ) → Machine
opened m mode j =
    record { mode = mode; value = j; from = 0; scope = m.scope; depth = m.depth; top = m.top; frames = m.frames - frame_words; nodes = m.nodes }

pub record Pushed (mem mem' : List ℕ) (m : Machine) (phase mode j : ℕ) (n : Machine) : Type 0 where
  pub framed : Framed mem mem' (m.frames - frame_words) (open_words m phase)
  pub next : n ≡ opened m mode j
  pub room : m.top + (frame_words + reserve + spare) ≤ m.frames

pub record Lacks (mem mem' : List ℕ) (m : Machine) : Type 0 where
  pub same : mem' ≡ mem
  pub short : m.frames < m.top + (frame_words + reserve + spare)

abbrev pub Opens : List ℕ → List ℕ → Machine → ℕ → ℕ → ℕ → Stepped → Type 0
Opens mem mem' m phase mode j (Ok (Next n)) = Pushed mem mem' m phase mode j n
Opens mem mem' m phase mode j (Err r) = ⊥
Opens mem mem' m phase mode j (Ok Short) = Lacks mem mem' m

pub record Opened (mem mem' : List ℕ) (m : Machine) (phase mode j : ℕ) (r : Stepped) : Type 0 where
  pub opens : Opens mem mem' m phase mode j r

-- room in the memory for a frame below the others, and words that can be numbered
pub record Openable (length : ℕ) (m : Machine) : Type 0 where
  pub inside : m.frames ≤ length
  pub small : length < 4_294_967_296
  pub below : m.top ≤ m.frames
  pub scope : m.scope ≤ m.frames

-- a definition's body is worked out at entry j, where no big operator's name is visible: the frame keeps the scope, and the definition's number r
abbrev pub body_words : Machine → (phase at r : ℕ) → Words
body_words m phase at r = record { phase = phase; entry = m.value; base = m.top; at = at; count = 0; value = m.scope; other = r }

abbrev pub enclosed : Machine → (mode j : ℕ) → Machine
enclosed m mode j =
    record { mode = mode; value = j; from = 0; scope = m.depth; depth = m.depth; top = m.top; frames = m.frames - frame_words; nodes = m.nodes }

pub record Enclosing (mem mem' : List ℕ) (m : Machine) (phase at r mode j : ℕ) (n : Machine) : Type 0 where
  pub framed : Framed mem mem' (m.frames - frame_words) (body_words m phase at r)
  pub next : n ≡ enclosed m mode j
  pub room : m.top + (frame_words + reserve + spare) ≤ m.frames

abbrev pub Encloses : List ℕ → List ℕ → Machine → (phase at r mode j : ℕ) → Stepped → Type 0
Encloses mem mem' m phase at r mode j (Ok (Next n)) = Enclosing mem mem' m phase at r mode j n
Encloses mem mem' m phase at r mode j (Err w) = ⊥
Encloses mem mem' m phase at r mode j (Ok Short) = Lacks mem mem' m

pub record Enclosed (mem mem' : List ℕ) (m : Machine) (phase at r mode j : ℕ) (u : Stepped) : Type 0 where
  pub encloses : Encloses mem mem' m phase at r mode j u

-- the first operand of the operator at entry k: some entries stand between it and the last one, whose entries end before k
abbrev pub first_of : List ℕ → (k between : ℕ) → ℕ
first_of work k between = k - (1 + between) - size_at work (k - 1)

pub record Preceded (work : List ℕ) (k between : ℕ) : Type 0 where
  pub few : k < max_tokens
  pub lent : work_bytes ≤ length work
  pub inside : 1 + between + size_at work (k - 1) ≤ k

-- three operands: the middle one ends where the last one's entries begin
abbrev pub first_of_three : List ℕ → ℕ → ℕ
first_of_three work k = first_of work k 0 - size_at work (first_of work k 0)

pub record PrecededByThree (work : List ℕ) (k : ℕ) : Type 0 where
  pub few : k < max_tokens
  pub lent : work_bytes ≤ length work
  pub inside : 1 + size_at work (k - 1) + size_at work (first_of work k 0) ≤ k

-- the entry of the last frame, which is written anew with what it keeps; the operand at the entry before is worked out
abbrev pub entry_at : List ℕ → Machine → ℕ
entry_at mem m = get_or mem (m.frames + entry_field) 0

abbrev pub kept_words : Machine → (phase k at value other : ℕ) → Words
kept_words m phase k at value other = record { phase = phase; entry = k; base = m.top; at = at; count = 0; value = value; other = other }

pub record Renewed (mem mem' : List ℕ) (m : Machine) (phase at value other mode : ℕ) (n : Machine) : Type 0 where
  pub framed : Framed mem mem' m.frames (kept_words m phase (entry_at mem m) at value other)
  pub next : n ≡ came m mode (entry_at mem m - 1) 0

-- or the one before it, of three
pub record RenewedBefore (work mem mem' : List ℕ) (m : Machine) (phase value mode : ℕ) (n : Machine) : Type 0 where
  pub framed : Framed mem mem' m.frames (kept_words m phase (entry_at mem m) 0 value 0)
  pub next : n ≡ came m mode (first_of work (entry_at mem m) 0) 0

-- there is a frame, of an entry that has an operand
pub record Renewable (mem : List ℕ) (m : Machine) : Type 0 where
  pub inside : m.frames + frame_words ≤ length mem
  pub small : length mem < 4_294_967_296
  pub below : m.top ≤ m.frames
  pub some : 0 < entry_at mem m
