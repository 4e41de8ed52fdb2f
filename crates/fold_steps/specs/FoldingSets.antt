-- What is done where sets so far are folded: the frame is gone, or the operator's name comes to the next element.
use Rattle.std.specs.Prelude.{ℕ, ◌+◌, ◌-◌, ◌≤◌, ◌<◌, ◌^◌, List, ◌≡◌, length, get_or, Ok}
use Rattle.machine.specs.declared.Move.TheVariants.{Next}
use Rattle.machine.specs.Stepped.{Stepped}
use Rattle.language.specs.Limits.{max_elements}
use Rattle.memory_sets.specs.Places.{Copied}
use Rattle.machine.specs.Fields.{entry_field, base_field, at_field, count_field}
use Rattle.machine.specs.Phases as Phase
use Rattle.machine.specs.Came.{Evaluate}
use Rattle.machine.specs.Memory.{frame_words}
use Rattle.machine.specs.Telling.{is_set}
use Rattle.machine.specs.States.{mode_of}
use Rattle.machine.specs.declared.Machine.{Machine}
use Rattle.fold_steps.specs.Turning.{Turns, words_at, next_at, unbound}

-- where the elements that are left end, among the frame's values
pub record Behind (base rest count low : ℕ) : Type 0 where
  pub kept : rest < base → low ≡ base
  pub among : base ≤ rest → low ≡ rest + count

-- what function `onward` asks for
pub record Foldable (mem : List ℕ) (m : Machine) (from n : ℕ) : Type 0 where
  pub inside : m.frames + frame_words ≤ length mem
  pub small : length mem < 2 ^ 32
  pub bound : 0 < m.depth
  pub slot : m.depth ≤ length mem
  pub entry : 0 < get_or mem (m.frames + entry_field) 0
  pub rest : 0 < get_or mem (m.frames + count_field) 0 → get_or mem (m.frames + at_field) 0 < length mem
  pub few : get_or mem (m.frames + count_field) 0 ≤ max_elements
  pub fits : from + n ≤ m.frames
  pub down : 0 < get_or mem (m.frames + count_field) 0 → (low : ℕ) → Behind (get_or mem (m.frames + base_field) 0) (get_or mem (m.frames + at_field) 0) (get_or mem (m.frames + count_field) 0) low
      → get_or mem (m.frames + base_field) 0 ≤ from → low ≤ from

-- what it does: the set is the answer where no element is left, moved down to the frame's base unless it is a kept one; else it is held behind those that are left
pub data Onward (mem mem' : List ℕ) (m : Machine) (from n : ℕ) (r : Stepped) : Type 0 where
  kept_end : get_or mem (m.frames + count_field) 0 ≡ 0 → from < get_or mem (m.frames + base_field) 0 → mem' ≡ mem → r ≡ Ok (Next (unbound m is_set n from (get_or mem (m.frames + base_field) 0))) → Onward mem mem' m from n r
  low_end : get_or mem (m.frames + count_field) 0 ≡ 0 → get_or mem (m.frames + base_field) 0 ≤ from → Copied mem from mem mem' (get_or mem (m.frames + base_field) 0) n
      → r ≡ Ok (Next (unbound m is_set n (get_or mem (m.frames + base_field) 0) (get_or mem (m.frames + base_field) 0))) → Onward mem mem' m from n r
  kept_on : {low : ℕ} {y : Machine} → 0 < get_or mem (m.frames + count_field) 0
      → Behind (get_or mem (m.frames + base_field) 0) (get_or mem (m.frames + at_field) 0) (get_or mem (m.frames + count_field) 0) low → from < get_or mem (m.frames + base_field) 0
      → r ≡ Ok (Next y) → Turns mem mem' m (next_at (words_at mem m.frames) Phase.next_set n from) (m.depth - 1) (get_or mem (get_or mem (m.frames + at_field) 0) 0) (mode_of Evaluate) low y → Onward mem mem' m from n r
  low_on : {low : ℕ} {y : Machine} {mem₁ : List ℕ} → 0 < get_or mem (m.frames + count_field) 0 → Behind (get_or mem (m.frames + base_field) 0) (get_or mem (m.frames + at_field) 0) (get_or mem (m.frames + count_field) 0) low
      → get_or mem (m.frames + base_field) 0 ≤ from → Copied mem from mem mem₁ low n → r ≡ Ok (Next y)
      → Turns mem₁ mem' m (next_at (words_at mem₁ m.frames) Phase.next_set n low) (m.depth - 1) (get_or mem₁ (get_or mem₁ (m.frames + at_field) 0) 0) (mode_of Evaluate) (low + n) y → Onward mem mem' m from n r
