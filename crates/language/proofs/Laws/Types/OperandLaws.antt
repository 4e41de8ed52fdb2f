-- Operators on operands of the types they take: the answer is of the type they give, or refused by 11, 12 or 13.
use Rattle.std.specs.Prelude.{ℕ, ◌≡◌, refl, Bool, true, false, ◌||◌, List, [], ◌∷◌, ltb}
use Rattle.std.proofs.Common.{subst, sym, arith}
use Rattle.std.proofs.lemmas.Bool.{false≢true}
use Rattle.node.specs.Ltl.{Formula}
use Rattle.node.specs.Result.{Result, Done, ◌>>=◌}
use Rattle.language.specs.Tokens.{Token}
use Rattle.language.specs.Operators.{Arithmetic, Plus, Minus, Times, Divide, Modulo, Measure, Size, Min, Max, Comparison, Equal, Unequal, Big, BigSum, BigProduct, BigCap, BigCup, BigAnd, BigOr}
use Rattle.language.specs.Types.{ExprType, ANumber, ASet, AFormula, ABus, AValue, AType, Unknown, big_gives, fitting, is_type}
use Rattle.language.specs.Sets.{union}
use Rattle.language.specs.Values.{Value, Number, Set, Logic, Bus, Unsized, Choice, Sized, calculate, measure, limited, range, between, big}
use Rattle.language.specs.DeclaredNames.{Port}
use Rattle.language.specs.Expansion.{against, bit_at, compared, big_formula}
use Rattle.language.proofs.Laws.Basics.Lists.{Any, all_any}
use Rattle.language.proofs.Laws.Basics.Tests.{or_cases}
use Rattle.language.proofs.Laws.Basics.Results.{done, refused, guarded, bind, gathered, folds_any}
use Rattle.language.proofs.Laws.Values.ValueTypes.{is_type_equal, IsOf, apart}
use Rattle.language.proofs.Laws.Types.Reaching.{Reaches, next, late-unless}
use Rattle.language.proofs.Laws.Types.TypeLaws.{Evaluates, number_reaches, bus_reaches, choice_reaches, number_of, set_of_lem}

pub then_number : (r : Result ℕ) → Reaches Any r → Evaluates ANumber (r >>= λ n. Done (Number n))
then_number r h = next r _ h (λ n. done refl)

pub then_set : (r : Result (List ℕ)) → Reaches Any r → Evaluates ASet (r >>= λ s. Done (Set s))
then_set r h = next r _ h (λ s. done refl)

pub calculate_reaches : (p : ℕ) (o : Arithmetic) (a b : ℕ) → Reaches Any (calculate p o a b)
calculate_reaches p Plus a b = late-unless _ 11 p _ (omega arith)
calculate_reaches p Minus a b = late-unless _ 11 p _ (omega arith)
calculate_reaches p Times a b = late-unless _ 11 p _ (omega arith)
calculate_reaches p Divide a b = late-unless _ 11 p _ (omega arith)
calculate_reaches p Modulo a b = late-unless _ 11 p _ (omega arith)

pub measure_reaches : (p : ℕ) (m : Measure) (s : List ℕ) → Reaches Any (measure p m s)
measure_reaches p Size s = done tt
measure_reaches p Min [] = refused (omega arith)
measure_reaches p Min (x ∷ s) = done tt
measure_reaches p Max [] = refused (omega arith)
measure_reaches p Max (x ∷ s) = done tt

pub limited_reaches : (p : ℕ) (s : List ℕ) → Reaches Any (limited p s)
limited_reaches p s = late-unless _ 12 p s (omega arith)

pub range_reaches : (p x y z : ℕ) → Reaches Any (range p x y z)
range_reaches p x y z = guarded (ltb x y) 12 p (λ _. omega arith) (λ e. late-unless _ 12 p _ (omega arith))

pub between_reaches : (p : ℕ) (l h : Bool) (a b : ℕ) → Reaches Any (between p l h a b)
between_reaches p l h a b = late-unless _ 12 p _ (omega arith)

pub bit_at_reaches : (ps : List Port) (i : ℕ) (b : Sized) → Reaches Any (bit_at ps i b)
bit_at_reaches ps i b = late-unless _ 13 _ _ (omega arith)

-- a big operator on operands of the type that it gives
pub big_reaches : (p : ℕ) (o : Big) (f : ℕ → Result Value) → ((k : ℕ) → Evaluates (big_gives o) (f k)) → (s : List ℕ) → Reaches (IsOf (big_gives o)) (big p o f s)
big_reaches p BigSum f h s =
    then_number _ (folds_any _ (calculate_reaches p Plus) _ (λ k. number_of (f k) (h k)) _ (done tt) s)
big_reaches p BigProduct f h s =
    then_number _ (folds_any _ (calculate_reaches p Times) _ (λ k. number_of (f k) (h k)) _ (done tt) s)
big_reaches p BigCap f h s =
    then_set _ (folds_any _ (λ a b. done tt) _ (λ k. set_of_lem (f k) (h k)) _ (refused (omega arith)) s)
big_reaches p BigCup f h s =
    then_set _ (folds_any _ (λ a b. limited_reaches p (union a b)) _ (λ k. set_of_lem (f k) (h k)) _ (done tt) s)
big_reaches p BigAnd f h s = done refl
big_reaches p BigOr f h s = done refl

pub big_formula_reaches : (o : Big) (f : ℕ → Result Formula) → big_gives o ≡ AFormula → ((k : ℕ) → Reaches Any (f k)) → (s : List ℕ) → Reaches Any (big_formula o f s)
big_formula_reaches BigSum f e h s = apart ANumber AFormula refl e
big_formula_reaches BigProduct f e h s = apart ANumber AFormula refl e
big_formula_reaches BigCap f e h s = apart ASet AFormula refl e
big_formula_reaches BigCup f e h s = apart ASet AFormula refl e
big_formula_reaches BigAnd f e h s = bind _ _ (gathered Any f (λ k u. h k) s (all_any s)) (λ fs _. done tt)
big_formula_reaches BigOr f e h s = bind _ _ (gathered Any f (λ k u. h k) s (all_any s)) (λ fs _. done tt)

-- comparisons
module _ (ps : List Port) (o : Comparison) where
  numbers_compare : (x y : Value) → IsOf ANumber x → IsOf ANumber y → Reaches Any (compared ps o x y)
  numbers_compare (Number m) y h i = next _ _ (number_reaches y i) (λ n. done tt)
  numbers_compare (Set s) y h i = apart ASet ANumber refl h
  numbers_compare Logic y h i = apart AFormula ANumber refl h
  numbers_compare (Bus p x n) y h i = apart ABus ANumber refl h
  numbers_compare (Unsized p) y h i = apart ABus ANumber refl h
  numbers_compare (Choice v) y h i = apart AValue ANumber refl h

  bus_compares : ((b : Sized) (v : List Token) → Reaches Any (against ps o b v)) → (x y : Value) → IsOf ABus x → IsOf AValue y → Reaches Any (compared ps o x y)
  bus_compares f (Number m) y h i = apart ANumber ABus refl h
  bus_compares f (Set s) y h i = apart ASet ABus refl h
  bus_compares f Logic y h i = apart AFormula ABus refl h
  bus_compares f (Bus p x n) y h i = next _ _ (choice_reaches y i) (f _)
  bus_compares f (Unsized p) y h i = refused (omega arith)
  bus_compares f (Choice v) y h i = apart AValue ABus refl h

  choice_compares : ((b : Sized) (v : List Token) → Reaches Any (against ps o b v)) → (x y : Value) → IsOf AValue x → IsOf ABus y → Reaches Any (compared ps o x y)
  choice_compares f (Number m) y h i = apart ANumber AValue refl h
  choice_compares f (Set s) y h i = apart ASet AValue refl h
  choice_compares f Logic y h i = apart AFormula AValue refl h
  choice_compares f (Bus p x n) y h i = apart ABus AValue refl h
  choice_compares f (Unsized p) y h i = apart ABus AValue refl h
  choice_compares f (Choice v) y h i = next _ _ (bus_reaches y i) (λ b. f b v)

  module _ (r q : Result Value) where
    both-sides : (k l : ExprType) → Reaches (IsOf k) r → Reaches (IsOf l) q → ((x y : Value) → IsOf k x → IsOf l y → Reaches Any (compared ps o x y))
        → Reaches Any (r >>= λ x. q >>= compared ps o x)
    both-sides k l h i f = bind r _ h (λ x a. bind q _ i (λ y b. f x y a b))

    pub numbers-reach : Evaluates ANumber r → Evaluates ANumber q → Reaches Any (r >>= λ x. q >>= compared ps o x)
    numbers-reach h i = both-sides ANumber ANumber h i numbers_compare

    -- the right operand's type, from the left one's
    beside : (k l : ExprType) → is_type k l ≡ true → Evaluates l q → Evaluates k q
    beside k l e i = subst (λ (m : ExprType). Evaluates m q) (sym (is_type_equal k l e)) i

    only : (b : Bool) → (b || false) ≡ true → b ≡ true
    only b e = or_cases b false (λ z. z) (λ z. absurd (false≢true z)) e

    pub fitting-reach : ((b : Sized) (v : List Token) → Reaches Any (against ps o b v)) → (k l : ExprType) → fitting k l ≡ true → Evaluates k r → Evaluates l q
        → Reaches Any (r >>= λ x. q >>= compared ps o x)
    fitting-reach f ANumber l e h i = numbers-reach h (beside ANumber l (only _ (only _ e)) i)
    fitting-reach f ASet l e h i = absurd (false≢true e)
    fitting-reach f AFormula l e h i = absurd (false≢true e)
    fitting-reach f ABus l e h i = both-sides ABus AValue h (beside AValue l (only _ e) i) (bus_compares f)
    fitting-reach f AValue l e h i = both-sides AValue ABus h (beside ABus l e i) (choice_compares f)
    fitting-reach f AType l e h i = absurd (false≢true e)
    fitting-reach f Unknown l e h i = absurd (false≢true e)

pub equality_reaches : (ps : List Port) (b : Sized) (v : List Token) → Reaches Any (against ps Equal b v)
equality_reaches ps b v = late-unless _ 13 _ _ (omega arith)

pub inequality_reaches : (ps : List Port) (b : Sized) (v : List Token) → Reaches Any (against ps Unequal b v)
inequality_reaches ps b v = late-unless _ 13 _ _ (omega arith)
