-- Where a name of a big operator begins: what is tested there, and the state before and after.
use Rattle.std.specs.Prelude.{ℕ, suc, ◌+◌, ◌*◌, ◌-◌, ◌≤◌, ◌<◌, ◌^◌, List, [], ◌++◌, Bool, false, ◌&&◌, ◌||◌, ◌≡◌, eqb, drop}
use Rattle.std.proofs.Math.Option.{some}
use Rattle.language.specs.Tokens.{Token, Name}
use Rattle.language.specs.Tree.{Expr}
use Rattle.language.specs.Grammar.{Tokens, Read}
use Rattle.language.specs.Lists.{All as Every}
use Rattle.language.specs.Limits.{max_tokens}
use Rattle.lexer.specs.Numbers.{fixed, class_number as tokenNumber}
use Rattle.entries.specs.Stored.{Keeps}
use Rattle.entries.specs.declared.Cursor.{Cursor}
use Rattle.entries.specs.Cursors.{number_at, next_of}
use Rattle.entries.specs.Reads.{Kept}
use Rattle.operators.specs.Fields.{level_bits}
use Rattle.expressions.specs.declared.stack.Machine.{Machine}
use Rattle.operators.specs.Readers.{folds}
use Rattle.expressions.specs.Classes.{Over}
use Rattle.expressions.specs.Frames.{Frame, plug}
use Rattle.expressions.specs.Stack.{Stacked}
use Rattle.expressions.specs.States.{slots_of, base, Firm, credits, Marked, State, weight}

-- the numbers of `IN`, `ELEM` and `<-`
abbrev pub among_at : ℕ → Bool
among_at n = eqb n (fixed "IN") || (eqb n (fixed "ELEM") || eqb n (fixed "<-"))

abbrev pub member_at : List ℕ → Cursor → Bool
member_at w c = eqb (number_at w c) (tokenNumber Name) && among_at (number_at w (next_of c))

-- before: the big operator's token has the index j
pub record Folding (ts : Tokens) (s : Cursor) (x : Read Expr) (w : List ℕ) (m : Machine) (c : Cursor) (j : ℕ) : Type 0 where
  pub frames : List Frame
  pub operator : Token
  pub firm : Every Firm frames
  pub marked : Marked Over operator
  pub keeps : Keeps ts j (some operator)
  pub token-fits : j < max_tokens
  pub level_fits : m.level < 2 ^ level_bits
  pub stacked : Stacked ts s w c m.depth (slots_of frames) (base frames ++ []) (suc (credits frames))
  pub same : x ≡ plug frames (folds m.level operator (drop c.at ts))

pub record Naming (w : List ℕ) (m : Machine) (c : Cursor) (j : ℕ) : Type 0 where
  pub tokens : Tokens
  pub start : Cursor
  pub answer : Read Expr
  pub state : Folding tokens start answer w m c j

-- after
pub record Named (ts : Tokens) (s : Cursor) (x : Read Expr) (w v : List ℕ) (m : Machine) (c : Cursor) (n : Machine) : Type 0 where
  pub kept : Kept w v s.out
  pub state : State false ts s x v n
  pub light : weight n ≤ 3 * (c.count - c.at) + m.depth + 1 + (max_tokens - c.out)

abbrev pub Names : List ℕ → List ℕ → Machine → Cursor → ℕ → Machine → Type 0
Names w v m c j n = (ts : Tokens) (s : Cursor) (x : Read Expr) → Folding ts s x w m c j → Named ts s x w v m c n
