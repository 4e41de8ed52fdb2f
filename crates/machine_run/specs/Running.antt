-- What is asked for and promised where the expression at an entry is worked out by the machine.
use Rattle.std.specs.Prelude.{ℕ, suc, min, ◌+◌, ◌≤◌, ◌<◌, List, [], ◌≡◌, length, get_or, Ok, Err}
use Rattle.node.specs.Limits.{max_nodes}
use Rattle.node.specs.Ltl.{Formula}
use Rattle.node.specs.Result.{Result, Done}
use Rattle.node.specs.Returned.{Returned, refusal}
use Rattle.writing.specs.Writing.{Wrote}
use Rattle.language.specs.Limits.{max_tokens}
use Rattle.language.specs.Tree.{Expr}
use Rattle.language.specs.Values.{value}
use Rattle.language.specs.Expansion.{Context, expansion}
use Rattle.operands.specs.Working.{Source, TellsNumber}
use Rattle.machine.specs.Memory.{Regions, slots_word, frame_words, spare, reserve}
use Rattle.machine.specs.Realm.{Operand, Realm}
use Rattle.machine.specs.Notes.{Noted, Lasting}
use Rattle.machine.specs.States.{Lent}
use Rattle.machine.specs.Telling.{is_number}
use Rattle.machine.specs.declared.Machine.{Machine}

-- the words of the largest memory, of one in which an entry is worked out apart, and of the smaller one: a memory of n words, or one apart
abbrev pub max_memory : ℕ
max_memory = 434_176

abbrev pub apart_memory : ℕ
apart_memory = 131_072

abbrev pub smaller : ℕ → ℕ
smaller n = min n apart_memory

-- slots begin where the memory says; there is one for each entry of the text, and behind them values begin
abbrev pub regions_of : List ℕ → ℕ → Regions
regions_of mem entries = record { slots = get_or mem slots_word 0; floor = get_or mem slots_word 0 + entries }

-- the buffers' sizes: an operator finds room on an empty stack, apart too
pub record Room (s : Source) (mem table : List ℕ) (entries k at : ℕ) : Type 0 where
  pub lent : Lent s mem
  pub below : k < entries
  pub few : entries ≤ max_tokens
  pub index : at ≤ suc max_nodes
  pub sized : length table ≡ max_nodes
  pub room : get_or mem slots_word 0 + entries + (frame_words + reserve + spare + entries) ≤ smaller (length mem)
  pub most : length mem ≤ max_memory

-- the expression e at entry k, in the context c, with what the memory notes of the names; nodes are written from `at` on
pub record Given (s : Source) (R : Realm s) (mem table : List ℕ) (entries k at : ℕ) (c : Context) (e : Expr) : Type 0 where
  pub operand : Operand s R.W R.ports [] c k e
  pub noted : Noted R (regions_of mem entries) at mem
  pub lasting : Lasting R.W mem table at

-- there is one
pub record Runnable (s : Source) (mem table : List ℕ) (entries k at : ℕ) : Type 0 where
  pub room : Room s mem table entries k at
  pub realm : Realm s
  pub context : Context
  pub expr : Expr
  pub given : Given s realm mem table entries k at context expr

-- of whatever expression stands there, the number that it is
pub record NumberTold (s : Source) (mem mem' table table' : List ℕ) (entries k at : ℕ) (r : Returned ℕ) : Type 0 where
  pub len : length mem' ≡ length mem
  pub same : (n : ℕ) → r ≡ Ok n → table' ≡ table
  pub tells : (R : Realm s) (c : Context) (e : Expr) → Given s R mem table entries k at c e → TellsNumber r (value c.values e)

-- the formula is written from `at` up to n; what is noted of the names holds behind it
pub record Formed {s : Source} (R : Realm s) (mem' table table' : List ℕ) (entries at n : ℕ) (f : Formula) : Type 0 where
  pub wrote : Wrote f table table' at n
  pub few : n ≤ suc max_nodes
  pub noted : Noted R (regions_of mem' entries) n mem'
  pub lasting : Lasting R.W mem' table' n

abbrev pub Answers : (ℕ → Formula → Type 0) → Returned ℕ → Result Formula → Type 0
Answers P (Ok n) v = (f : Formula) × ((v ≡ Done f) × P n f)
Answers P (Err r) v = v ≡ Result.Refused r.number r.place

-- of whatever expression stands there, its expansion
pub record FormulaTold (s : Source) (mem mem' table table' : List ℕ) (entries k at : ℕ) (r : Returned ℕ) : Type 0 where
  pub len : length mem' ≡ length mem
  pub slots : get_or mem' slots_word 0 ≡ get_or mem slots_word 0
  pub tells : (R : Realm s) (c : Context) (e : Expr) → Given s R mem table entries k at c e → Answers (Formed R mem' table table' entries at) r (expansion c e)

-- the state in which a run begins
abbrev pub initial : List ℕ → (entries k at mode : ℕ) → Machine
initial mem entries k at mode =
    record { mode = mode; value = k; from = 0; scope = get_or mem slots_word 0; depth = get_or mem slots_word 0; top = get_or mem slots_word 0 + entries; frames = length mem; nodes = at }

-- a number, or what is none
pub record NumberIs (n : Machine) (w : Returned ℕ) : Type 0 where
  pub number : n.mode ≡ is_number → w ≡ Ok n.value
  pub other : (n.mode ≡ is_number → ⊥) → w ≡ Err (refusal 9 0)
