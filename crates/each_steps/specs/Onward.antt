-- What is done where the operands so far are folded: the frame is gone, or the operator's name comes to the next element.
use Rattle.std.specs.Prelude.{ℕ, suc, ◌+◌, ◌-◌, ◌≤◌, ◌<◌, ◌^◌, List, ◌≡◌, length, get_or, Ok}
use Rattle.node.specs.Limits.{max_nodes}
use Rattle.machine.specs.declared.Move.TheVariants.{Next}
use Rattle.machine.specs.Stepped.{Stepped}
use Rattle.machine.specs.Fields.{base_field, at_field, count_field}
use Rattle.machine.specs.Phases as Phase
use Rattle.machine.specs.Came.{Expand}
use Rattle.machine.specs.Memory.{frame_words}
use Rattle.machine.specs.Telling.{is_nodes}
use Rattle.machine.specs.States.{mode_of}
use Rattle.machine.specs.Moves.{wrote}
use Rattle.machine.specs.declared.Machine.{Machine}
use Rattle.fold_steps.specs.Turning.{Turns, words_at, next_at, Continuing, unbound}

-- the frame is gone, and the formula ends before `nodes`
abbrev pub closed : Machine → (base nodes : ℕ) → Machine
closed m base nodes = unbound (wrote m nodes) is_nodes 0 0 base

-- how many elements are left to the last frame
abbrev pub left_of : List ℕ → Machine → ℕ
left_of mem m = get_or mem (m.frames + count_field) 0

abbrev pub base_of : List ℕ → Machine → ℕ
base_of mem m = get_or mem (m.frames + base_field) 0

-- the last frame is a big operator's
pub record Turnable (mem : List ℕ) (m : Machine) (nodes : ℕ) : Type 0 where
  pub inside : m.frames + frame_words ≤ length mem
  pub small : length mem < 2 ^ 32
  pub slot : 0 < m.depth
  pub few : nodes ≤ suc max_nodes
  pub next : 0 < left_of mem m → Continuing mem (wrote m nodes) 0

-- the frame keeps the formula's end, and one element less is left
pub record Onward (mem mem' : List ℕ) (m : Machine) (nodes : ℕ) (r : Stepped) : Type 0 where
  pub last : left_of mem m ≡ 0 → (mem' ≡ mem) × (r ≡ Ok (Next (closed m (base_of mem m) nodes)))
  pub more : 0 < left_of mem m → (n : Machine) × (r ≡ Ok (Next n))
      × Turns mem mem' (wrote m nodes) (next_at (words_at mem m.frames) Phase.next_each nodes 0) (m.depth - 1) (get_or mem (get_or mem (m.frames + at_field) 0) 0) (mode_of Expand) m.top n
