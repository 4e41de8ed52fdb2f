-- An element of a set from the second on is read: another one follows, or the list of elements is complete.
use Rattle.std.specs.Prelude.{ℕ, suc, ◌<◌, List, ◌++◌, ◌≡◌, drop}
use Rattle.language.specs.Tree.{Expr}
use Rattle.language.specs.Grammar.{Tokens, Read}
use Rattle.language.proofs.Laws.Basics.Lists.{All as Every}
use Rattle.entries.specs.Flat.{flat}
use Rattle.entries.specs.declared.Cursor.{Cursor}
use Rattle.entries.specs.Reads.{Kept}
use Rattle.expressions.specs.declared.stack.Machine.{Machine}
use Rattle.operators.specs.Readers.{listed}
use Rattle.expressions.specs.Frames.{Frame, plug}
use Rattle.expressions.specs.Stack.{Stacked, Rooted}
use Rattle.expressions.specs.States.{slots_of, base, Firm, credits, State, weight}

-- the element is complete; its frame is popped
pub record Listing (ts : Tokens) (s : Cursor) (x : Read Expr) (w : List ℕ) (m : Machine) : Type 0 where
  pub frames : List Frame
  pub tree : Expr
  pub rooted : Rooted (flat tree)
  pub firm : Every Firm frames
  pub level : m.level ≡ 0
  pub stacked : Stacked ts s w m.c m.depth (slots_of frames) (base frames ++ flat tree) (suc (credits frames))
  pub same : x ≡ plug frames (listed tree (drop m.c.at ts))

pub record Listings (w : List ℕ) (m : Machine) : Type 0 where
  pub tokens : Tokens
  pub start : Cursor
  pub answer : Read Expr
  pub state : Listing tokens start answer w m

-- a step from there
pub record Went (ts : Tokens) (s : Cursor) (x : Read Expr) (w v : List ℕ) (m n : Machine) : Type 0 where
  pub kept : Kept w v s.out
  pub state : State n.complete ts s x v n
  pub light : weight n < weight m

abbrev pub Goes : List ℕ → List ℕ → Machine → Machine → Type 0
Goes w v m n = (ts : Tokens) (s : Cursor) (x : Read Expr) → Listing ts s x w m → Went ts s x w v m n
