-- Numbers and sets are refused at places of the text's tokens, at most n.
use Rattle.std.specs.Prelude.{ℕ, ◌+◌, ◌*◌, ◌≤◌, Bool, List, [], ◌∷◌, leb, ltb, length}
use Rattle.std.proofs.Common.{arith}
use Rattle.node.specs.Result.{Result, Done, ◌>>=◌}
use Rattle.language.specs.Limits.{max_number, max_elements}
use Rattle.language.specs.Bytes.{same}
use Rattle.language.specs.Tokens.{Token}
use Rattle.language.specs.Operators.{
  Arithmetic,
  Plus,
  Minus,
  Times,
  Divide,
  Modulo,
  Measure,
  Size,
  Min,
  Max,
  Big,
  BigSum,
  BigProduct,
  BigCap,
  BigCup,
  BigAnd,
  BigOr,
  Calculates,
  Combines,
  Compares,
  Membership,
  Connects,
  Measures,
  WidthOf,
  Applies,
}
use Rattle.language.specs.Tree.{Expr, Named, Numeral, Truth, Index, Paren, Prefixed, Joined, Nexts, InWindow, Each, Between, Listed, Empty, Element, Range}
use Rattle.language.specs.Sets.{union, combine, range_size}
use Rattle.language.specs.Values.{
  Value,
  Number,
  Set,
  Logic,
  Bus,
  Unsized,
  Choice,
  number,
  set,
  bus,
  choice,
  in_range,
  decimal,
  calculate,
  measure,
  limited,
  range,
  between,
  big,
  Scope,
  naming,
  value,
}
use Rattle.language.proofs.Laws.Basics.Lists.{Any}
use Rattle.language.proofs.Laws.Basics.Tests.{split}
use Rattle.language.proofs.Laws.Basics.Results.{done, refused, guarded, bind, folds_any}
use Rattle.language.proofs.Laws.Grammar.TreeTokens.{InExpr}
use Rattle.language.proofs.Laws.Values.ValueTypes.{number_as, set_as, bus_as, choice_as}
use Rattle.language.proofs.Laws.Places.PlaceBounds.{At, Held}

-- a bus keeps the place of its name
abbrev pub InValue : ℕ → Value → Type 0
InValue n (Number m) = Unit {0}
InValue n (Set s) = Unit {0}
InValue n Logic = Unit {0}
InValue n (Bus p x w) = p ≤ n
InValue n (Unsized p) = p ≤ n
InValue n (Choice v) = Unit {0}

-- the visible names are refused at places of the text
abbrev pub InScope : ℕ → Scope → Type 0
InScope n sc = (t : Token) → At n t → Held n (InValue n) (sc t)

module _ (n : ℕ) where
  zero-low : 0 ≤ n
  zero-low = omega arith

  pub number_held : (v : Value) → InValue n v → Held n Any (number v)
  number_held = number_as (InValue n) (λ m h. tt) (λ _ _ _. zero-low)

  set_held : (v : Value) → InValue n v → Held n Any (set v)
  set_held = set_as (InValue n) (λ s h. tt) (λ _ _ _. zero-low)

  pub bus_held : (v : Value) → InValue n v → Held n (λ b. b.place ≤ n) (bus v)
  bus_held = bus_as (InValue n) (λ p x w h. h) (λ p h. h) (λ _ _ _. zero-low)

  pub choice_held : (v : Value) → InValue n v → Held n Any (choice v)
  choice_held = choice_as (InValue n) (λ w h. tt) (λ _ _ _. zero-low)

  pub a_number_lem : (r : Result Value) → Held n (InValue n) r → Held n Any (r >>= number)
  a_number_lem r h = bind r number h number_held

  pub a_set_lem : (r : Result Value) → Held n (InValue n) r → Held n Any (r >>= set)
  a_set_lem r h = bind r set h set_held

  number_is : (r : Result ℕ) → Held n Any r → Held n (InValue n) (r >>= λ m. Done (Number m))
  number_is r h = bind r _ h λ m _. done tt

  set_is : (r : Result (List ℕ)) → Held n Any r → Held n (InValue n) (r >>= λ s. Done (Set s))
  set_is r h = bind r _ h λ s _. done tt

  module _ (p : ℕ) (low : p ≤ n) where
    in_range-held : (m : ℕ) → Held n Any (in_range p m)
    in_range-held m = guarded (leb m max_number) 11 _ (λ _. low) (λ _. done tt)

    calculate-held : (o : Arithmetic) (a b : ℕ) → Held n Any (calculate p o a b)
    calculate-held Plus a b = in_range-held (a + b)
    calculate-held Minus a b = guarded (leb b a) 11 _ (λ _. low) (λ _. done tt)
    calculate-held Times a b = in_range-held (a * b)
    calculate-held Divide a b = guarded (ltb 0 b) 11 _ (λ _. low) (λ _. done tt)
    calculate-held Modulo a b = guarded (ltb 0 b) 11 _ (λ _. low) (λ _. done tt)

    measure-held : (m : Measure) (s : List ℕ) → Held n Any (measure p m s)
    measure-held Size s = done tt
    measure-held Min [] = refused low
    measure-held Min (x ∷ s) = done tt
    measure-held Max [] = refused low
    measure-held Max (x ∷ s) = done tt

    limited-held : (s : List ℕ) → Held n Any (limited p s)
    limited-held s = guarded (leb (length s) max_elements) 12 _ (λ _. low) (λ _. done tt)

    range-held : (x y z : ℕ) → Held n Any (range p x y z)
    range-held x y z = guarded (ltb x y) 12 _ (λ _. low) (λ _. guarded (leb (range_size x y z) max_elements) 12 _ (λ _. low) (λ _. done tt))

    between-held : (l u : Bool) (a b : ℕ) → Held n Any (between p l u a b)
    between-held l u a b = guarded _ 12 _ (λ _. low) (λ _. done tt)

  big_held : (p : ℕ) (o : Big) (f : ℕ → Result Value) (s : List ℕ) → p ≤ n → ((k : ℕ) → Held n (InValue n) (f k)) → Held n (InValue n) (big p o f s)
  big_held p BigSum f s l h = number_is _ (folds_any _ (calculate-held p l Plus) _ (λ k. a_number_lem (f k) (h k)) _ (done tt) s)
  big_held p BigProduct f s l h = number_is _ (folds_any _ (calculate-held p l Times) _ (λ k. a_number_lem (f k) (h k)) _ (done tt) s)
  big_held p BigCap f s l h = set_is _ (folds_any _ (λ a b. done tt) _ (λ k. a_set_lem (f k) (h k)) _ (refused l) s)
  big_held p BigCup f s l h = set_is _ (folds_any _ (λ a b. limited-held p l (union a b)) _ (λ k. a_set_lem (f k) (h k)) _ (done tt) s)
  big_held p BigAnd f s l h = done tt
  big_held p BigOr f s l h = done tt

  pub naming_held : {A : Type 0} {Q : A → Type 0} (x : Token) (r : Result A) (sc : Token → Result A) → Held n Q r → ((t : Token) → At n t → Held n Q (sc t)) → (t : Token) → At n t
      → Held n Q (naming x r sc t)
  naming_held {Q = Q} x r sc h g t a = split (Held n Q) (same x.text t.text) (λ _. h) (λ _. g t a)

  pub value_held : (sc : Scope) (e : Expr) → InScope n sc → InExpr (At n) e → Held n (InValue n) (value sc e)
  value_held sc (Named t) g h = g t h
  value_held sc (Numeral t) g h = number_is _ (in_range-held t.at h (decimal 0 t.text))
  value_held sc (Truth t b) g h = done tt
  value_held sc (Index t e) g h = done tt
  value_held sc (Paren t e) g h = value_held sc e g h.1
  value_held sc (Prefixed t (Measures m) e) g h = number_is _ (bind _ _ (a_set_lem (value sc e) (value_held sc e g h.1)) λ s _. measure-held t.at h.0 m s)
  value_held sc (Prefixed t WidthOf e) g h = bind _ _ (bind _ _ (value_held sc e g h.1) bus_held) λ b _. done tt
  value_held sc (Prefixed t (Applies o) e) g h = done tt
  value_held sc (Joined t (Calculates o) a b) g h =
      bind _ _ (a_number_lem (value sc a) (value_held sc a g h.1)) λ m _. number_is _ (bind _ _ (a_number_lem (value sc b) (value_held sc b g h.2)) λ k _. calculate-held t.at h.0 o m k)
  value_held sc (Joined t (Combines o) a b) g h =
      bind _ _ (a_set_lem (value sc a) (value_held sc a g h.1)) λ m _. bind _ _ (a_set_lem (value sc b) (value_held sc b g h.2)) λ k _. set_is _ (limited-held t.at h.0 (combine o m k))
  value_held sc (Joined t (Compares o) a b) g h = done tt
  value_held sc (Joined t Membership a b) g h = done tt
  value_held sc (Joined t (Connects o) a b) g h = done tt
  value_held sc (Nexts t m e) g h = done tt
  value_held sc (InWindow t o l m e) g h = done tt
  value_held sc (Each t o further i s e) g h =
      bind _ _ (a_set_lem (value sc s) (value_held sc s g h.2)) λ m _.
      big_held t.at o _ m h.0 (λ k. value_held (naming i (Done (Number k)) sc) e (naming_held i (Done (Number k)) sc (done tt) g) h.3)
  value_held sc (Between t l u a b) g h =
      bind _ _ (a_number_lem (value sc a) (value_held sc a g h.1)) λ m _. set_is _ (bind _ _ (a_number_lem (value sc b) (value_held sc b g h.2)) λ k _. between-held t.at h.0 l u m k)
  value_held sc (Listed t es) g h = set_is _ (bind _ _ (a_set_lem (value sc es) (value_held sc es g h.1)) λ s _. limited-held t.at h.0 s)
  value_held sc Empty g h = done tt
  value_held sc (Element e es) g h =
      bind _ _ (a_number_lem (value sc e) (value_held sc e g h.0)) λ m _. bind _ _ (a_set_lem (value sc es) (value_held sc es g h.1)) λ s _. done tt
  value_held sc (Range t x y z) g h =
      bind _ _ (a_number_lem (value sc x) (value_held sc x g h.1)) λ a _. bind _ _ (a_number_lem (value sc y) (value_held sc y g h.2)) λ b _.
      set_is _ (bind _ _ (a_number_lem (value sc z) (value_held sc z g h.3)) λ c _. range-held t.at h.0 a b c)
