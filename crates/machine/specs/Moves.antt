-- The next states: a value comes, a formula was written, a frame is gone, a number or its refusal comes; and where the values end above a set that has come.
use Rattle.std.specs.Prelude.{ℕ, ◌+◌, true, false, eqb, Ok, Err}
use Rattle.node.specs.Returned.{Returned}
use Rattle.machine.specs.declared.Move.TheVariants.{Next}
use Rattle.machine.specs.Stepped.{Stepped}
use Rattle.machine.specs.Memory.{frame_words}
use Rattle.machine.specs.Telling.{is_nodes, is_number}
use Rattle.machine.specs.declared.Machine.{Machine}

-- the next state where a value comes; where a formula was written; where another entry is worked out
abbrev pub came : Machine → (mode value from : ℕ) → Machine
came m mode value from =
    record { mode = mode; value = value; from = from; scope = m.scope; depth = m.depth; top = m.top; frames = m.frames; nodes = m.nodes }

abbrev pub wrote : Machine → ℕ → Machine
wrote m n = record { mode = is_nodes; value = 0; from = 0; scope = m.scope; depth = m.depth; top = m.top; frames = m.frames; nodes = n }

-- the frame is gone
abbrev pub popped : Machine → Machine
popped m = record { mode = m.mode; value = m.value; from = m.from; scope = m.scope; depth = m.depth; top = m.top; frames = m.frames + frame_words; nodes = m.nodes }

-- the move of a number worked out
abbrev pub numbered : Machine → Returned ℕ → Stepped
numbered m (Ok n) = Ok (Next (came m is_number n 0))
numbered m (Err r) = Err r

-- the values' end, with a set that stands on top of them
abbrev pub above : Machine → ℕ
above m = elim (eqb m.from m.top) [ true ↦ m.top + m.value | false ↦ m.top ]
