-- What is done where numbers so far are folded: the frame is gone, or the operator's name comes to the next element.
use Rattle.std.specs.Prelude.{ℕ, ◌+◌, ◌-◌, ◌≤◌, ◌<◌, ◌^◌, List, ◌≡◌, length, get_or, Ok}
use Rattle.machine.specs.declared.Move.TheVariants.{Next}
use Rattle.machine.specs.Stepped.{Stepped}
use Rattle.machine.specs.Fields.{base_field, at_field, count_field}
use Rattle.machine.specs.Phases as Phase
use Rattle.machine.specs.Came.{Evaluate}
use Rattle.machine.specs.Memory.{frame_words}
use Rattle.machine.specs.Telling.{is_number}
use Rattle.machine.specs.States.{mode_of}
use Rattle.machine.specs.declared.Machine.{Machine}
use Rattle.fold_steps.specs.Turning.{Turns, Continuing, words_at, next_at, unbound}

-- a number is folded: it is the answer where no element is left; else the operand is worked out at the next one
pub record Foldable (mem : List ℕ) (m : Machine) : Type 0 where
  pub next : 0 < get_or mem (m.frames + count_field) 0 → Continuing mem m 0
  pub inside : m.frames + frame_words ≤ length mem
  pub small : length mem < 2 ^ 32
  pub bound : 0 < m.depth

pub data Onward (mem mem' : List ℕ) (m : Machine) (n : ℕ) (r : Stepped) : Type 0 where
  ended : get_or mem (m.frames + count_field) 0 ≡ 0 → mem' ≡ mem → r ≡ Ok (Next (unbound m is_number n 0 (get_or mem (m.frames + base_field) 0))) → Onward mem mem' m n r
  going : {y : Machine} → 0 < get_or mem (m.frames + count_field) 0 → r ≡ Ok (Next y)
      → Turns mem mem' m (next_at (words_at mem m.frames) Phase.next_number n 0) (m.depth - 1) (get_or mem (get_or mem (m.frames + at_field) 0) 0) (mode_of Evaluate) m.top y → Onward mem mem' m n r
