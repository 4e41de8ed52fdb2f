-- What holds of every definition of a world: a use of it may go on at its body's own entry, outside every big operator.
use Rattle.std.specs.Prelude.{ℕ, false, List, [], ◌≡◌}
use Rattle.language.specs.Tree.{Expr}
use Rattle.language.specs.Grammar.{Tokens}
use Rattle.language.specs.DeclaredNames.{Port}
use Rattle.language.specs.Expansion.{Context}
use Rattle.name_values.specs.World.{Defines, World, meaning_at}
use Rattle.name_values.specs.Known.{Known}

-- its body is known there
pub record Bodies (ts : Tokens) (w refs : List ℕ) (W : World) : Type 0 where
  pub known : (r n : ℕ) (c : Context) (e : Expr) → meaning_at W r ≡ Defines n c e → Known ts w refs W [] c false n e

-- its context has the signals' order ps
pub record Ported (ps : List Port) (W : World) : Type 0 where
  pub ports : (r n : ℕ) (c : Context) (e : Expr) → meaning_at W r ≡ Defines n c e → c.ports ≡ ps
