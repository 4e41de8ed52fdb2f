-- An expression that is complete: the last frame takes it. The tree that a frame makes of it, as entries.
use Rattle.std.specs.Prelude.{ℕ, ◌+◌, ◌-◌, ◌≤◌, ◌<◌, List, ◌++◌, true, ◌≡◌, length, drop}
use Rattle.node.specs.Result.{Done}
use Rattle.language.specs.Limits.{max_tokens, work_bytes}
use Rattle.language.specs.Tree.{Expr}
use Rattle.language.specs.Grammar.{Tokens, Read}
use Rattle.language.proofs.Laws.Basics.Lists.{All as Every}
use Rattle.entries.specs.Kinds as Kind
use Rattle.entries.specs.Flat.{flat}
use Rattle.entries.specs.Stored.{put_entry}
use Rattle.entries.specs.declared.Cursor.{Cursor}
use Rattle.entries.specs.Cursors.{emitted_of}
use Rattle.expressions.specs.declared.stack.Machine.{Machine}
use Rattle.expressions.specs.declared.stack.Turn.{Turn}
use Rattle.expressions.specs.Frames.{Frame, plug}
use Rattle.expressions.specs.Stack.{slot_index, slot_level, top_slot, Stacked, Rooted, start_of, Trees}
use Rattle.expressions.specs.States.{slots_of, base, Firm, credits, Turned}

-- like a state whose operand is complete, where no operator follows
pub record Complete (ts : Tokens) (s : Cursor) (x : Read Expr) (w : List ℕ) (m : Machine) : Type 0 where
  pub frames : List Frame
  pub tree : Expr
  pub rooted : Rooted (flat tree)
  pub firm : Every Firm frames
  pub stacked : Stacked ts s w m.c m.depth (slots_of frames) (base frames ++ flat tree) (credits frames)
  pub same : x ≡ plug frames (Done (tree, drop m.c.at ts))

pub record Completed (w : List ℕ) (m : Machine) : Type 0 where
  pub tokens : Tokens
  pub start : Cursor
  pub answer : Read Expr
  pub state : Complete tokens start answer w m

abbrev pub Ends : List ℕ → List ℕ → Machine → Turn → Type 0
Ends w v m r = (ts : Tokens) (s : Cursor) (x : Read Expr) → Complete ts s x w m → Turned ts s x w v m r

-- the entry of a tree of n operands, its last frame popped, at a cursor
pub record Builds (w : List ℕ) (m : Machine) (c : Cursor) (kind n : ℕ) : Type 0 where
  pub room : work_bytes ≤ length w
  pub some_slot : 0 < m.depth
  pub deep : m.depth ≤ max_tokens
  pub few : c.out + 1 < max_tokens
  pub kind_fits : kind < Kind.limit
  pub trees : Trees w c.out n
  pub begins : start_of w c.out n ≤ c.out

abbrev pub built_of : List ℕ → Machine → Cursor → Machine
built_of w m c = record { c = emitted_of c; depth = m.depth - 1; level = slot_level (top_slot w m.depth); complete = true }

abbrev pub built_in : List ℕ → Machine → Cursor → ℕ → ℕ → List ℕ
built_in w m c kind n = put_entry w c.out kind (slot_index (top_slot w m.depth)) (1 + (c.out - start_of w c.out n))
