-- What evaluation knows of the expression at entry k: it stands there, the context agrees with its names, and the bodies that it uses end before its first
-- entry; elements stand in braces only.
use Rattle.std.specs.Prelude.{ℕ, suc, ◌+◌, ◌≤◌, Bool, List, length}
use Rattle.language.specs.Tree.{Expr}
use Rattle.language.specs.Grammar.{Tokens}
use Rattle.language.specs.Expansion.{Context}
use Rattle.language.specs.Braces.{Proper}
use Rattle.entries.specs.Flat.{flat}
use Rattle.entries.specs.Stored.{At}
use Rattle.name_values.specs.World.{World}
use Rattle.name_values.specs.Agrees.{Agrees}

pub record Known (ts : Tokens) (w refs : List ℕ) (W : World) (env : List ℕ) (c : Context) (braces : Bool) (k : ℕ) (e : Expr) : Type 0 where
  pub at : At w ts k e
  pub limit : ℕ
  pub within : limit + length (flat e) ≤ suc k
  pub agrees : Agrees W refs limit env c k e
  pub proper : Proper braces e
