-- An entry over the last trees, with no frame popped: an element, bounds, a name.
use Rattle.std.specs.Prelude.{ℕ, ◌+◌, ◌-◌, ◌≤◌, ◌<◌, List, length}
use Rattle.language.specs.Limits.{max_tokens, work_bytes}
use Rattle.entries.specs.Kinds as Kind
use Rattle.entries.specs.Stored.{put_entry}
use Rattle.entries.specs.declared.Cursor.{Cursor}
use Rattle.expressions.specs.Stack.{start_of, Trees}

pub record Grows (w : List ℕ) (c : Cursor) (kind j n : ℕ) : Type 0 where
  pub room : work_bytes ≤ length w
  pub few : c.out + 1 < max_tokens
  pub kind_fits : kind < Kind.limit
  pub index-fits : j < max_tokens
  pub trees : Trees w c.out n
  pub begins : start_of w c.out n ≤ c.out

abbrev pub grown_in : List ℕ → Cursor → ℕ → ℕ → ℕ → List ℕ
grown_in w c kind j n = put_entry w c.out kind j (1 + (c.out - start_of w c.out n))
