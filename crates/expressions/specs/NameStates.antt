-- The bounds and the set of a big operator's name: the name is bound, and further names or the operand follow.
use Rattle.std.specs.Prelude.{ℕ, suc, ◌+◌, ◌<◌, List, [], ◌∷◌, ◌++◌, true, ◌≡◌, eqb, drop}
use Rattle.std.proofs.Math.Option.{some}
use Rattle.language.specs.Tree.{Expr}
use Rattle.language.specs.Grammar.{Tokens, Read, Binder}
use Rattle.language.proofs.Laws.Basics.Lists.{All as Every}
use Rattle.language.specs.Limits.{max_tokens}
use Rattle.entries.specs.Kinds as Kind
use Rattle.entries.specs.Flat.{flat}
use Rattle.entries.specs.Stored.{Keeps}
use Rattle.entries.specs.declared.Cursor.{Cursor}
use Rattle.expressions.specs.declared.stack.Machine.{Machine}
use Rattle.expressions.specs.declared.stack.Turn.{Turn}
use Rattle.expressions.specs.Classes.{Over, class_number}
use Rattle.expressions.specs.Frames.{Frame, plug, after_binder}
use Rattle.expressions.specs.Stack.{Stacked, Rooted}
use Rattle.expressions.specs.States.{slot, slots_of, base, Firm, Marked, credits, Turned}

-- a name, the token of index j, and its range are read up to the cursor c; the operator's slot is the last
pub record Ranged (ts : Tokens) (s : Cursor) (x : Read Expr) (w : List ℕ) (m : Machine) (c : Cursor) (j : ℕ) : Type 0 where
  pub frame : Frame
  pub frames : List Frame
  pub binder : Binder
  pub rooted : Rooted (flat binder.range)
  pub firm : Every Firm frames
  pub marked : Marked Over frame.token
  pub keeps : Keeps ts j (some binder.name)
  pub index-fits : j < max_tokens
  pub stacked : Stacked ts s w c m.depth (slot (class_number Over) frame.level frame.token [] ∷ slots_of frames) (base frames ++ flat binder.range) (suc (credits frames))
  pub same : x ≡ plug frames (after_binder frame.level frame.token binder (drop c.at ts))

pub record Ranging (w : List ℕ) (m : Machine) (c : Cursor) (j : ℕ) : Type 0 where
  pub tokens : Tokens
  pub start : Cursor
  pub answer : Read Expr
  pub state : Ranged tokens start answer w m c j

-- the step from there
pub record NameBound (ts : Tokens) (s : Cursor) (x : Read Expr) (w v : List ℕ) (m : Machine) (c : Cursor) (r : Turn) : Type 0 where
  pub step : Turned ts s x w v (record { c = c; depth = m.depth + 1; level = 0; complete = true }) r

abbrev pub Binds : List ℕ → List ℕ → Machine → Cursor → ℕ → Turn → Type 0
Binds w v m c j r = (ts : Tokens) (s : Cursor) (x : Read Expr) → Ranged ts s x w m c j → NameBound ts s x w v m c r

-- the entry's kind: the first name, or a further one
abbrev pub binder_kind : ℕ → ℕ
binder_kind l = Kind.binder (eqb l 0)
