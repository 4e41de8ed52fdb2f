-- A formula without a wrong operand expands, or is refused by 11, 12 or 13.
use Rattle.std.specs.Prelude.{ℕ, ◌-◌, ◌≡◌, refl, Bool, true, false, List, leb}
use Rattle.std.proofs.Common.{sym, subst, arith}
use Rattle.std.proofs.Math.Option.{none, some}
use Rattle.node.specs.Result.{Result, Done, ◌>>=◌, guard}
use Rattle.node.specs.Ltl.{Formula}
use Rattle.language.specs.Bytes.{if◌then◌otherwise◌, same}
use Rattle.language.specs.Tokens.{Token}
use Rattle.language.specs.Operators.{Comparison, Equal, Unequal, Less, AtMost, Greater, AtLeast, Window, Calculates, Combines, Compares, Membership, Connects, Measures, WidthOf, Applies}
use Rattle.language.specs.Tree.{Expr, Named, Numeral, Truth, Index, Paren, Prefixed, Joined, Nexts, InWindow, Each, Between, Listed, Empty, Element, Range}
use Rattle.language.specs.Places.{start, first, unless}
use Rattle.language.specs.Types.{
  ExprType,
  ANumber,
  ASet,
  AFormula,
  ABus,
  Typings,
  is_type,
  type_in,
  type_of,
  with_number,
  big_gives,
  comparable,
  fitting,
  wrong_sides,
  wrong_operands,
  mistyped,
  demanded,
  wrong,
}
use Rattle.language.specs.Values.{Value, misfit, Sized, Scope, number, value}
use Rattle.language.specs.DeclaredNames.{Port}
use Rattle.language.specs.Expansion.{nexts, chain, window_operator, Context, at, against, compared, expansion}
use Rattle.language.specs.Braces.{Proper}
use Rattle.language.proofs.Laws.Basics.Lists.{Any}
use Rattle.language.proofs.Laws.Basics.Tests.{some_none}
use Rattle.language.proofs.Laws.Basics.NoPlace.{first-left, first-right, unless_none}
use Rattle.language.proofs.Laws.Basics.Results.{done, guarded}
use Rattle.language.proofs.Laws.Values.ValueTypes.{is_type_equal, apart}
use Rattle.language.proofs.Laws.Types.Reaching.{Reaches, next}
use Rattle.language.proofs.Laws.Types.TypeLaws.{Evaluates, number_of, set_of_lem, bus_of}
use Rattle.language.proofs.Laws.Types.OperandLaws.{bit_at_reaches, big_formula_reaches, numbers-reach, fitting-reach, equality_reaches, inequality_reaches}
use Rattle.language.proofs.Laws.Types.TypeSoundness.{Agree, agree-number, Taken, taken, taken-both, taken-two, taken-three, operand, value_evaluates}

-- the formulas of the visible names that stand for one
abbrev pub Expands : Typings → (Token → Result Formula) → Type 0
Expands ys fs = (t : Token) → type_in ys t ≡ AFormula → Reaches Any (fs t)

pub record Serves (ys : Typings) (c : Context) : Type 0 where
  pub values : Agree ys c.values
  pub formulas : Expands ys c.formulas

-- a formula by the second type, the first being another
pub not_first : (b : Bool) (k l : ExprType) → (k ≡ AFormula → ⊥) → elim b [ true ↦ k | false ↦ l ] ≡ AFormula → l ≡ AFormula
not_first true k l h e = absurd (h e)
not_first false k l h e = e

-- a number's name is no formula
number-formula : (b : Bool) (l : ExprType) (r : Result Formula) → (l ≡ AFormula → Reaches Any r) → elim b [ true ↦ ANumber | false ↦ l ] ≡ AFormula
    → Reaches {A = Formula} Any (elim b [ true ↦ misfit | false ↦ r ])
number-formula true l r h e = apart ANumber AFormula refl e
number-formula false l r h e = h e

serves_number : (ys : Typings) (c : Context) (i : Token) (n : ℕ) → Serves ys c → Serves (with_number i ys) (at c i n)
serves_number ys c i n h =
    record {
      values = agree-number ys c.values i n h.values;
      formulas = λ t. number-formula (same i.text t.text) (type_in ys t) (c.formulas t) (h.formulas t);
    }

pub formula-operand : (ys : Typings) (e : Expr) (r : Result Formula) → Taken AFormula ys e → (mistyped ys e ≡ none → type_of ys e ≡ AFormula → Reaches Any r) → Reaches Any r
formula-operand ys e r t h =
    h t.inside (sym (is_type_equal AFormula (type_of ys e) (unless_none (is_type AFormula (type_of ys e)) (start e) t.fits)))

-- `==` and `!=`
sides_none : (b f : Bool) (p q : ℕ) → (if b then unless f p otherwise some q) ≡ none → f ≡ true
sides_none true f p q e = unless_none f p e
sides_none false f p q e = absurd (some_none e)

module _ (ps : List Port) (ys : Typings) (sc : Scope) (a b : Expr) (u : mistyped ys a ≡ none → Evaluates (type_of ys a) (value sc a)) (v : mistyped ys b ≡ none → Evaluates (type_of ys b) (value sc b))
  where
    numbers-compared : (o : Comparison) → first (first (wrong ANumber ys a) (wrong ANumber ys b)) (first (mistyped ys a) (mistyped ys b)) ≡ none
        → Reaches Any (value sc a >>= λ x. value sc b >>= compared ps o x)
    numbers-compared o h =
        let w = taken-both ANumber ANumber ys a b h in
        numbers-reach ps o (value sc a) (value sc b) (operand ANumber ys a _ w.0 u) (operand ANumber ys b _ w.1 v)

    sides-compared : (o : Comparison) → ((b : Sized) (w : List Token) → Reaches Any (against ps o b w)) → first (wrong_sides ys a b) (first (mistyped ys a) (mistyped ys b)) ≡ none
        → Reaches Any (value sc a >>= λ x. value sc b >>= compared ps o x)
    sides-compared o f h =
        let w = first-left (wrong_sides ys a b) (first (mistyped ys a) (mistyped ys b)) h in
        let m = first-right (wrong_sides ys a b) (first (mistyped ys a) (mistyped ys b)) h in
        fitting-reach ps o (value sc a) (value sc b) f (type_of ys a) (type_of ys b)
        (sides_none (comparable (type_of ys a)) (fitting (type_of ys a) (type_of ys b)) (start b) (start a) w)
        (u (first-left (mistyped ys a) (mistyped ys b) m)) (v (first-right (mistyped ys a) (mistyped ys b) m))

    compared-reaches : (o : Comparison) → first (wrong_operands ys (Compares o) a b) (first (mistyped ys a) (mistyped ys b)) ≡ none
        → Reaches Any (value sc a >>= λ x. value sc b >>= compared ps o x)
    compared-reaches Equal h = sides-compared Equal (equality_reaches ps) h
    compared-reaches Unequal h = sides-compared Unequal (inequality_reaches ps) h
    compared-reaches Less h = numbers-compared Less h
    compared-reaches AtMost h = numbers-compared AtMost h
    compared-reaches Greater h = numbers-compared Greater h
    compared-reaches AtLeast h = numbers-compared AtLeast h

-- a number that an operator of a formula takes
number-operand : (ys : Typings) (sc : Scope) → Agree ys sc → (e : Expr) → Proper false e → Taken ANumber ys e → Reaches Any (value sc e >>= number)
number-operand ys sc a e s w = number_of (value sc e) (operand ANumber ys e _ w (value_evaluates ys sc a e false s))

window_reaches : (o : Window) (p : ℕ) (r s : Result ℕ) (q : Result Formula) → Reaches Any r → Reaches Any s → Reaches Any q
    → Reaches Any (r >>= λ j. s >>= λ k. guard (leb j k) 11 p (q >>= λ f. Done (nexts j (chain (window_operator o) (k - j) f))))
window_reaches o p r s q h i l = next r _ h (λ j. next s _ i (λ k. guarded (leb j k) 11 p (λ _. omega arith) (λ _. next q _ l (λ f. done tt))))

bus-named : (ys : Typings) (t : Token) (p : ℕ) (r : Result Value) → unless (is_type ABus (type_in ys t)) p ≡ none → Evaluates (type_in ys t) r → Evaluates ABus r
bus-named ys t p r e h =
    subst (λ (k : ExprType). Evaluates k r) (sym (is_type_equal ABus (type_in ys t) (unless_none (is_type ABus (type_in ys t)) p e))) h

pub expansion_reaches : (ys : Typings) (c : Context) → Serves ys c → (e : Expr) → Proper false e → mistyped ys e ≡ none → type_of ys e ≡ AFormula → Reaches Any (expansion c e)
expansion_reaches ys c v (Named t) s h k = v.formulas t k
expansion_reaches ys c v (Numeral t) s h k = apart ANumber AFormula refl k
expansion_reaches ys c v (Truth t b) s h k = done tt
expansion_reaches ys c v (Index t e) s h k =
    let p = unless (is_type ABus (type_in ys t)) t.at in
    next _ _ (number-operand ys c.values v.values e s.1 (taken ANumber ys e (first-right p (demanded ANumber ys e) h))) (λ i.
    next _ _ (bus_of _ (bus-named ys t t.at _ (first-left p (demanded ANumber ys e) h) (v.values t))) (bit_at_reaches c.ports i))
expansion_reaches ys c v (Paren t e) s h k = expansion_reaches ys c v e s.1 h k
expansion_reaches ys c v (Prefixed t (Measures m) e) s h k = apart ANumber AFormula refl k
expansion_reaches ys c v (Prefixed t WidthOf e) s h k = apart ANumber AFormula refl k
expansion_reaches ys c v (Prefixed t (Applies o) e) s h k =
    next _ _ (formula-operand ys e _ (taken AFormula ys e h) (expansion_reaches ys c v e s.1)) (λ f. done tt)
expansion_reaches ys c v (Joined t (Calculates o) a b) s h k = apart ANumber AFormula refl k
expansion_reaches ys c v (Joined t (Combines o) a b) s h k = apart ASet AFormula refl k
expansion_reaches ys c v (Joined t (Compares o) a b) s h k =
    compared-reaches c.ports ys c.values a b (value_evaluates ys c.values v.values a false s.1) (value_evaluates ys c.values v.values b false s.2) o h
expansion_reaches ys c v (Joined t Membership a b) s h k =
    let w = taken-both ANumber ASet ys a b h in
    next _ _ (number-operand ys c.values v.values a s.1 w.0) (λ n.
    next _ _ (set_of_lem _ (operand ASet ys b _ w.1 (value_evaluates ys c.values v.values b false s.2))) (λ m. done tt))
expansion_reaches ys c v (Joined t (Connects o) a b) s h k =
    let w = taken-both AFormula AFormula ys a b h in
    next _ _ (formula-operand ys a _ w.0 (expansion_reaches ys c v a s.1)) (λ f.
    next _ _ (formula-operand ys b _ w.1 (expansion_reaches ys c v b s.2)) (λ g. done tt))
expansion_reaches ys c v (Nexts t n e) s h k =
    let w = taken-two ANumber AFormula ys ys n e h in
    next _ _ (number-operand ys c.values v.values n s.1 w.0) (λ i.
    next _ _ (formula-operand ys e _ w.1 (expansion_reaches ys c v e s.2)) (λ f. done tt))
expansion_reaches ys c v (InWindow t o n m e) s h k =
    let w = taken-three AFormula ys n m e h in
    window_reaches o t.at _ _ _ (number-operand ys c.values v.values n s.1 w.0) (number-operand ys c.values v.values m s.2 w.1)
    (formula-operand ys e _ w.2 (expansion_reaches ys c v e s.3))
expansion_reaches ys c v (Each t o further i m e) s h k =
    let w = taken-two ASet (big_gives o) ys (with_number i ys) m e h in
    next _ _ (set_of_lem _ (operand ASet ys m _ w.0 (value_evaluates ys c.values v.values m false s.1))) (big_formula_reaches o _ k (λ n.
    formula-operand (with_number i ys) e _ (subst (λ (l : ExprType). Taken l (with_number i ys) e) k w.1)
    (expansion_reaches (with_number i ys) (at c i n) (serves_number ys c i n v) e s.2)))
expansion_reaches ys c v (Between t l u a b) s h k = apart ASet AFormula refl k
expansion_reaches ys c v (Listed t es) s h k = apart ASet AFormula refl k
expansion_reaches ys c v Empty s h k = apart ASet AFormula refl k
expansion_reaches ys c v (Element e es) s h k = apart ASet AFormula refl k
expansion_reaches ys c v (Range t x y z) s h k = apart ASet AFormula refl k
