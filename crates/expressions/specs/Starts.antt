-- What the functions that begin an operand ask for and answer.
use Rattle.std.specs.Prelude.{ℕ, ◌≤◌, ◌<◌, List, length}
use Rattle.language.specs.Limits.{max_tokens, work_bytes}
use Rattle.entries.specs.Kinds as Kind
use Rattle.entries.specs.Stored.{put_entry}
use Rattle.entries.specs.Cursors.{next_of, emitted_of}
use Rattle.expressions.specs.declared.stack.Machine.{Machine}
use Rattle.expressions.specs.declared.stack.Turn.{Turn}
use Rattle.expressions.specs.declared.stack.Turn.TheVariants.{Next}
use Rattle.expressions.specs.Machines.{climbing_of}

pub record Leafs (w : List ℕ) (m : Machine) (kind : ℕ) : Type 0 where
  pub room : work_bytes ≤ length w
  pub at-fits : m.c.at < max_tokens
  pub out_fits : m.c.out < max_tokens
  pub kind_fits : kind < Kind.limit

-- an entry without operands for the next token
abbrev pub leaf_of : Machine → Turn
leaf_of m = Next (climbing_of m (emitted_of (next_of m.c)))

abbrev pub leaf_written : List ℕ → Machine → ℕ → List ℕ
leaf_written w m kind = put_entry w m.c.out kind m.c.at 1
