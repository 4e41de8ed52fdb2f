-- The next states: a definition's frame is gone; a set was made at its frame's base; the next operand is worked out.
use Rattle.std.specs.Prelude.{ℕ, ◌+◌}
use Rattle.machine.specs.Memory.{frame_words}
use Rattle.machine.specs.Came.{Evaluate}
use Rattle.machine.specs.Telling.{is_set}
use Rattle.machine.specs.States.{mode_of}
use Rattle.machine.specs.declared.Machine.{Machine}

-- the frame is gone
abbrev pub released : Machine → ℕ → Machine
released m scope =
    record { mode = m.mode; value = m.value; from = m.from; scope = scope; depth = m.depth; top = m.top; frames = m.frames + frame_words; nodes = m.nodes }

-- the next state where a set was made at the frame's base
abbrev pub made-set : Machine → (n base : ℕ) → Machine
made-set m n base = record { mode = is_set; value = n; from = base; scope = m.scope; depth = m.depth; top = base; frames = m.frames + frame_words; nodes = m.nodes }

-- the operand at entry j is worked out, and values lie up to `top`
abbrev pub onward : Machine → (j top : ℕ) → Machine
onward m j top = record { mode = mode_of Evaluate; value = j; from = 0; scope = m.scope; depth = m.depth; top = top; frames = m.frames; nodes = m.nodes }
