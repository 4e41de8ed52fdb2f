-- What the functions promise of the words ws that stand in the entries [from, to).
use Rattle.std.specs.Prelude.{ℕ, ◌≤◌, Bool, List, ◌≡◌, length}
use Rattle.node.specs.Limits.{max_nodes}
use Rattle.language.specs.Limits.{work_bytes, max_tokens}
use Rattle.language.specs.Tokens.{Token}
use Rattle.language.specs.DeclaredNames.{Port}
use Rattle.language.specs.Numbering.{first_of}
use Rattle.language.specs.Expansion.{one_of, width_is}
use Rattle.language.specs.Lines.{leaves_unnamed}
use Rattle.writing.specs.Writing.{Wrote}
use Rattle.choices.specs.Entries.{row_in, rows_at, Words}
use Rattle.choices.specs.Literals.{matching}
use Rattle.choices.specs.Coverage.{Regular}

-- the buffer has room for the entries up to `to`
pub record Readable (w : List ℕ) (to : ℕ) : Type 0 where
  pub room : work_bytes ≤ length w
  pub few : to ≤ max_tokens

-- and the words have passed refusal 10
pub record Tabled (text w : List ℕ) (from to : ℕ) : Type 0 where
  pub readable : Readable w to
  pub regular : Regular (rows_at text w from to)

-- whatever name has `first` as the number of its first signal
pub record Matches (text : List ℕ) (x first : ℕ) (out out' : List ℕ) (at r : ℕ) : Type 0 where
  pub wrote : (ps : List Port) (name : List ℕ) → first ≡ first_of ps name → Wrote (matching ps name (row_in text x)) out out' at r

pub record OneOf (text w : List ℕ) (from to first : ℕ) (out out' : List ℕ) (at r : ℕ) : Type 0 where
  pub wrote : (ps : List Port) (name : List ℕ) (ws : List Token) → Words text w from to ws → (at ≤ max_nodes → first ≡ first_of ps name)
      → Wrote (one_of ps name ws) out out' at r

pub record WidthsAre (w : List ℕ) (from to n : ℕ) (r : Bool) : Type 0 where
  pub same : (text : List ℕ) (ws : List Token) → Words text w from to ws → r ≡ width_is n ws

pub record Unnamed (text w : List ℕ) (from to : ℕ) (r : Bool) : Type 0 where
  pub same : (ws : List Token) → Words text w from to ws → r ≡ leaves_unnamed ws
