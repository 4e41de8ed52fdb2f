-- What the functions of the stack ask for and answer.
use Rattle.std.specs.Prelude.{ℕ, ◌+◌, ◌-◌, ◌≤◌, ◌<◌, ◌^◌, List, true, false, length}
use Rattle.language.specs.Limits.{max_tokens, work_bytes}
use Rattle.entries.specs.declared.Cursor.{Cursor}
use Rattle.operators.specs.Fields.{level_bits}
use Rattle.expressions.specs.declared.stack.Machine.{Machine}
use Rattle.expressions.specs.Stack.{Trees, class_bits}

pub record Pushes (w : List ℕ) (m : Machine) (class token : ℕ) : Type 0 where
  pub room : work_bytes ≤ length w
  pub deep : m.depth < max_tokens
  pub class-fits : class < 2 ^ class_bits
  pub level_fits : m.level < 2 ^ level_bits
  pub token-fits : token < max_tokens

pub record Tops (w : List ℕ) (m : Machine) : Type 0 where
  pub room : work_bytes ≤ length w
  pub some : 0 < m.depth
  pub deep : m.depth ≤ max_tokens

pub record Sizes (w : List ℕ) (out n : ℕ) : Type 0 where
  pub room : work_bytes ≤ length w
  pub few : out ≤ max_tokens
  pub trees : Trees w out n

-- reading on from a cursor, a slot deeper
abbrev pub pushed_of : Machine → Cursor → ℕ → Machine
pushed_of m c level = record { c = c; depth = m.depth + 1; level = level; complete = false }

abbrev pub popped_of : Machine → ℕ → Machine
popped_of m level = record { c = m.c; depth = m.depth - 1; level = level; complete = m.complete }

abbrev pub climbing_of : Machine → Cursor → Machine
climbing_of m c = record { c = c; depth = m.depth; level = m.level; complete = true }
