-- A context agrees with what a stored expression's names refer to: by recursion on the expression whose own entry is entry k, as Refers of crate names goes.
use Rattle.std.specs.Prelude.{ℕ, ◌+◌, ◌-◌, ◌<◌, List, ◌∷◌, ◌≡◌, length, get_or}
use Rattle.language.specs.Limits.{max_names}
use Rattle.language.specs.Tokens.{Token}
use Rattle.language.specs.Tree.{Expr, Named, Numeral, Truth, Index, Paren, Prefixed, Joined, Nexts, InWindow, Each, Between, Listed, Empty, Element, Range}
use Rattle.language.specs.Expansion.{Context, at}
use Rattle.entries.specs.Flat.{flat}
use Rattle.name_values.specs.World.{World, name_at, denote, denote_formula, Earlier}

-- a name t is used by its reference r; a definition's body ends before the entry `limit`
pub record Uses (W : World) (limit : ℕ) (env : List ℕ) (r : ℕ) (t : Token) (c : Context) : Type 0 where
  pub inside : r < max_names + length env
  pub stands : c.values t ≡ denote W env r t
  pub forms : c.formulas t ≡ denote_formula c.ports W r t
  pub spelt : r < max_names → name_at W r ≡ t.text
  pub earlier : Earlier W limit r

-- under a big operator's name, whatever element it has come to
abbrev pub Agrees : World → List ℕ → ℕ → List ℕ → Context → ℕ → Expr → Type 0
Agrees W refs limit env c k (Named t) = Uses W limit env (get_or refs k 0) t c
Agrees W refs limit env c k (Numeral t) = Unit {0}
Agrees W refs limit env c k (Truth t b) = Unit {0}
Agrees W refs limit env c k (Index t e) = Uses W limit env (get_or refs k 0) t c × Agrees W refs limit env c (k - 1) e
Agrees W refs limit env c k (Paren t e) = Agrees W refs limit env c (k - 1) e
Agrees W refs limit env c k (Prefixed t o e) = Agrees W refs limit env c (k - 1) e
Agrees W refs limit env c k (Joined t o a b) = Agrees W refs limit env c (k - 1 - length (flat b)) a × Agrees W refs limit env c (k - 1) b
Agrees W refs limit env c k (Nexts t n e) = Agrees W refs limit env c (k - 1 - length (flat e)) n × Agrees W refs limit env c (k - 1) e
Agrees W refs limit env c k (InWindow t o n m e) =
    Agrees W refs limit env c (k - 1 - length (flat e) - length (flat m)) n × Agrees W refs limit env c (k - 1 - length (flat e)) m × Agrees W refs limit env c (k - 1) e
Agrees W refs limit env c k (Each t o further i s e) =
    Agrees W refs limit env c (k - 1 - length (flat e) - 1) s × (get_or refs (k - 1 - length (flat e)) 0 ≡ max_names + length env) × ((v : ℕ) → Agrees W refs limit (v ∷ env) (at c i v) (k - 1) e)
Agrees W refs limit env c k (Between t l h a b) = Agrees W refs limit env c (k - 1 - length (flat b)) a × Agrees W refs limit env c (k - 1) b
Agrees W refs limit env c k (Listed t es) = Agrees W refs limit env c (k - 1) es
Agrees W refs limit env c k Empty = Unit {0}
Agrees W refs limit env c k (Element e es) = Agrees W refs limit env c (k - 1 - length (flat es)) e × Agrees W refs limit env c (k - 1) es
Agrees W refs limit env c k (Range t x y z) =
    Agrees W refs limit env c (k - 1 - length (flat z) - length (flat y)) x × Agrees W refs limit env c (k - 1 - length (flat z)) y × Agrees W refs limit env c (k - 1) z
