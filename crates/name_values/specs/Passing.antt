-- A tree's entries passed from the first on: each expression that is passed stands in the buffer, and its names are resolved.
use Rattle.std.specs.Prelude.{ℕ, false, List, [], ◌≡◌}
use Rattle.language.specs.Tokens.{tokens}
use Rattle.language.specs.Tree.{Expr, Spec}
use Rattle.entries.specs.Flat.{Entry, outline}
use Rattle.entries.specs.Stored.{EntriesFrom, At}
use Rattle.names.specs.Roles.{binds, ends}
use Rattle.names.specs.Refers.{Refers, Run}
use Rattle.names.specs.Resolved.{declared_names}

-- the entries es are left, of which the first is entry `start`; no big operator is open
pub record Left (x : Spec) (text w : List ℕ) (start : ℕ) (es : List Entry) : Type 0 where
  pub run : Run (outline x) start [] [] es
  pub stored : EntriesFrom w (tokens text) start es

-- an expression outside every big operator, its own entry at k
pub record Here (x : Spec) (text w refs : List ℕ) (k : ℕ) (e : Expr) : Type 0 where
  pub at : At w (tokens text) k e
  pub refers : Refers refs (declared_names x) [] k e

-- an entry that neither opens nor ends a big operator
abbrev pub Plain : Entry → Type 0
Plain m = (binds m.kind ≡ false) × (ends m.kind ≡ false)
