-- A sign behind a part of an operator's brackets or of a set: the frame waits for the next part.
use Rattle.std.specs.Prelude.{ℕ, ◌+◌, ◌-◌, List, false}
use Rattle.entries.specs.declared.Cursor.{Cursor}
use Rattle.expressions.specs.declared.stack.Machine.{Machine}
use Rattle.expressions.specs.declared.stack.Turn.{Turn}
use Rattle.expressions.specs.declared.stack.Turn.TheVariants.{Next}
use Rattle.expressions.specs.Stack.{slot_index, slot_level, top_slot, put_slot}

-- the last slot of another class; then an expression is read from the cursor on
abbrev pub reopened_of : Machine → Cursor → ℕ → Turn
reopened_of m d l = Next (record { c = d; depth = m.depth - 1 + 1; level = l; complete = false })

abbrev pub reopened_in : List ℕ → Machine → ℕ → List ℕ
reopened_in w m class = put_slot w (m.depth - 1) class (slot_level (top_slot w m.depth)) (slot_index (top_slot w m.depth))
