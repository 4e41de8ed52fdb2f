-- A name that an expression uses, by its reference: its value, its formula, and the body of a definition, which stands before the use.
use Rattle.std.specs.Prelude.{ℕ, ◌≤◌, ◌<◌, Bool, List, ◌≡◌, get_or}
use Rattle.std.proofs.Common.{◌∙◌, subst, arith}
use Rattle.language.specs.Limits.{max_names}
use Rattle.language.specs.Tokens.{Token}
use Rattle.language.specs.Tree.{Expr, Named}
use Rattle.language.specs.Grammar.{Tokens}
use Rattle.language.specs.Values.{misfit}
use Rattle.language.specs.Expansion.{Context}
use Rattle.name_values.specs.World.{Defines, Before, name_value, formed, World, meaning_at}
use Rattle.name_values.specs.Agrees.{Uses}
use Rattle.name_values.proofs.AgreesLaws.{denote-declared, formula-declared, formula-bound}
use Rattle.name_values.specs.Known.{Known}

module _ {W : World} {limit : ℕ} {env : List ℕ} {r : ℕ} {t : Token} {c : Context} (u : Uses W limit env r t c) where
  -- a declared name
  pub used-value : r < max_names → c.values t ≡ name_value (meaning_at W r) t
  used-value l = u.stands ∙ denote-declared W env r t l

  pub used-formula : r < max_names → c.formulas t ≡ formed c.ports (meaning_at W r) t
  used-formula l = u.forms ∙ formula-declared c.ports W r t l

  -- a big operator's
  pub used_no_formula : max_names ≤ r → c.formulas t ≡ misfit
  used_no_formula l = u.forms ∙ formula-bound c.ports W r t l

  -- a definition
  used-before : (n : ℕ) (d : Context) (e : Expr) → r < max_names → meaning_at W r ≡ Defines n d e → n < limit
  used-before n d e l m = subst (Before limit) m (u.earlier l)

module _ {ts : Tokens} {w refs : List ℕ} {W : World} {env : List ℕ} {c : Context} {braces : Bool} {k : ℕ} where
  pub named-body : (t : Token) → Known ts w refs W env c braces k (Named t) → (n : ℕ) (d : Context) (e : Expr) → get_or refs k 0 < max_names → meaning_at W (get_or refs k 0) ≡ Defines n d e → n < k
  named-body t h n d e l m = let b = used-before h.agrees n d e l m in let s = h.within in omega arith
