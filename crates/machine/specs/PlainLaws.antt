-- What is a number or a set is no formula: expressions, where no name is both; and declared names.
use Rattle.std.specs.Prelude.{ℕ, List, ◌≡◌, refl}
use Rattle.std.proofs.Common.{arith}
use Rattle.node.specs.Ltl.{Formula}
use Rattle.node.specs.Result.{Result, Done, Refused, ◌>>=◌}
use Rattle.language.specs.Tokens.{Token}
use Rattle.language.specs.Operators.{Big, BigSum, BigProduct, BigCap, BigCup, BigAnd, BigOr, Calculates, Combines, Compares, Membership, Connects, Measures, WidthOf, Applies}
use Rattle.language.specs.Tree.{Expr, Named, Numeral, Truth, Index, Paren, Prefixed, Joined, Nexts, InWindow, Each, Between, Listed, Empty, Element, Range}
use Rattle.language.specs.Values.{Value, Number, Set, Logic, misfit, set, big, naming, value}
use Rattle.language.specs.DeclaredNames.{Declared, Constant, Single, BusOf, Identifies, WaitingBus, Port, value_at}
use Rattle.language.specs.Expansion.{Context, at, expansion, big_formula, signal_of}
use Rattle.name_values.specs.World.{Meaning, Stands, Defines, NoValue, name_value, formed}
use Rattle.machine.specs.Realm.{Plain}

-- a number or a set
abbrev pub NoFormula : {A : Type 0} → Result Value → Result A → Type 0
NoFormula v f = ((n : ℕ) → v ≡ Done (Number n) → f ≡ misfit) × ((s : List ℕ) → v ≡ Done (Set s) → f ≡ misfit)

module _ {A : Type 0} where
  -- whatever the value is
  never : {v : Result Value} → NoFormula {A = A} v misfit
  never = ((λ n e. refl), λ s e. refl)

  -- a formula's value is neither
  logic : {f : Result A} → NoFormula (Done Logic) f
  logic = ((λ n e. absurd (no_number e)), λ s e. absurd (no-set e))
    where
      no_number : {n : ℕ} → ◌≡◌ {A = Result Value} (Done Logic) (Done (Number n)) → ⊥
      no_number e = let z : ◌≡◌ {A = ℕ} 0 1 = cc in omega arith

      no-set : {s : List ℕ} → ◌≡◌ {A = Result Value} (Done Logic) (Done (Set s)) → ⊥
      no-set e = let z : ◌≡◌ {A = ℕ} 0 1 = cc in omega arith

  pub refuses : {i p : ℕ} {f : Result A} → NoFormula (Refused i p) f
  refuses = ((λ n e. absurd (no_number e)), λ s e. absurd (no-set e))
    where
      no_number : {i p n : ℕ} → ◌≡◌ {A = Result Value} (Refused i p) (Done (Number n)) → ⊥
      no_number e = let z : ◌≡◌ {A = ℕ} 0 1 = cc in omega arith

      no-set : {i p : ℕ} {s : List ℕ} → ◌≡◌ {A = Result Value} (Refused i p) (Done (Set s)) → ⊥
      no-set e = let z : ◌≡◌ {A = ℕ} 0 1 = cc in omega arith

each-plain : (F : ℕ → Result Value) (G : ℕ → Result Formula) (p : ℕ) (o : Big) (r : Result (List ℕ)) → NoFormula (r >>= big p o F) (r >>= big_formula o G)
unfolding ◌>>=◌
each-plain F G p BigSum (Done s) = never
each-plain F G p BigProduct (Done s) = never
each-plain F G p BigCap (Done s) = never
each-plain F G p BigCup (Done s) = never
each-plain F G p BigAnd (Done s) = logic
each-plain F G p BigOr (Done s) = logic
each-plain F G p BigSum (Refused n i) = refuses
each-plain F G p BigProduct (Refused n i) = refuses
each-plain F G p BigCap (Refused n i) = refuses
each-plain F G p BigCup (Refused n i) = refuses
each-plain F G p BigAnd (Refused n i) = refuses
each-plain F G p BigOr (Refused n i) = refuses

-- an expression that is a number or a set is no formula
pub no_formula : (c : Context) → Plain c → (e : Expr) → NoFormula (value c.values e) (expansion c e)
no_formula c h (Named t) = (h.number t, h.set t)
no_formula c h (Numeral t) = never
no_formula c h (Truth t b) = logic
no_formula c h (Index t e) = logic
no_formula c h (Paren t e) = no_formula c h e
no_formula c h (Prefixed t (Measures m) e) = never
no_formula c h (Prefixed t WidthOf e) = never
no_formula c h (Prefixed t (Applies o) e) = logic
no_formula c h (Joined t (Calculates o) a b) = never
no_formula c h (Joined t (Combines o) a b) = never
no_formula c h (Joined t (Compares o) a b) = logic
no_formula c h (Joined t Membership a b) = logic
no_formula c h (Joined t (Connects o) a b) = logic
no_formula c h (Nexts t n e) = logic
no_formula c h (InWindow t o n m e) = logic
no_formula c h (Each t o further i s e) = each-plain (λ k. value (naming i (Done (Number k)) c.values) e) (λ k. expansion (at c i k) e) t.at o (value c.values s >>= set)
no_formula c h (Between t l u a b) = never
no_formula c h (Listed t es) = never
no_formula c h Empty = never
no_formula c h (Element e es) = never
no_formula c h (Range t x y z) = never

-- nor has a declared name
pub declared-plain : (ps : List Port) (t : Token) (v : Declared) → NoFormula {A = Formula} (Done (value_at t v)) (signal_of ps t v)
declared-plain ps t (Constant n) = never
declared-plain ps t Single = logic
declared-plain ps t (BusOf n) = never
declared-plain ps t (Identifies ws) = never
declared-plain ps t WaitingBus = never

pub meaning_plain_lem : (ps : List Port) (t : Token) (m : Meaning) → ((n : ℕ) (c : Context) (e : Expr) → m ≡ Defines n c e → Plain c) → NoFormula {A = Formula} (name_value m t) (formed ps m t)
meaning_plain_lem ps t (Stands v) h = declared-plain ps t v
meaning_plain_lem ps t (Defines n c e) h = no_formula c (h n c e refl) e
meaning_plain_lem ps t NoValue h = refuses
