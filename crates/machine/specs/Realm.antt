-- What is fixed while an expression is worked out: the lent buffers that nobody changes, what the declared names of the text mean, the signals' order.
use Rattle.std.specs.Prelude.{ℕ, ◌≤◌, Bool, false, List, [], ◌≡◌}
use Rattle.node.specs.Result.{Done}
use Rattle.language.specs.Limits.{max_number}
use Rattle.language.specs.Tokens.{Token, tokens}
use Rattle.language.specs.Tree.{Expr}
use Rattle.language.specs.Values.{Number, Set, misfit}
use Rattle.language.specs.DeclaredNames.{Port, Identifies}
use Rattle.language.specs.Expansion.{Context}
use Rattle.language.specs.Lists.{All}
use Rattle.spellings.specs.Interned.{Lexed}
use Rattle.name_values.specs.World.{World, Stands, Defines, meaning_at}
use Rattle.name_values.specs.Known.{Known}
use Rattle.choices.specs.StoredWords.{Short}
use Rattle.operands.specs.Working.{Source}

-- a name that stands for a number or a set stands for no formula
pub record Plain (c : Context) : Type 0 where
  pub number : (t : Token) (n : ℕ) → c.values t ≡ Done (Number n) → c.formulas t ≡ misfit
  pub set : (t : Token) (s : List ℕ) → c.values t ≡ Done (Set s) → c.formulas t ≡ misfit

-- the expression e may be worked out at entry k in the context c, under big operators that have come to `env`, the innermost first; or it is the rest of braces
pub record OperandIn (s : Source) (W : World) (ps : List Port) (braces : Bool) (env : List ℕ) (c : Context) (k : ℕ) (e : Expr) : Type 0 where
  pub known : Known (tokens s.text) s.work s.refs W env c braces k e
  pub small : All (λ v. v ≤ max_number) env
  pub ports : c.ports ≡ ps
  pub plain : Plain c

abbrev pub Operand : Source → World → List Port → List ℕ → Context → ℕ → Expr → Type 0
Operand s W ps env c k e = OperandIn s W ps false env c k e

pub record Realm (s : Source) : Type 0 where
  pub W : World
  pub ports : List Port
  pub count : ℕ
  pub lexed : Lexed s.text s.work count
  pub bodies : (r n : ℕ) (c : Context) (e : Expr) → meaning_at W r ≡ Defines n c e → Operand s W ports [] c n e
  pub short : (r : ℕ) (ws : List Token) → meaning_at W r ≡ Stands (Identifies ws) → All Short ws
