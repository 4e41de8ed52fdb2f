-- What an entry's kind says of how its expression is worked out, and what each such class says of the expression.
use Rattle.std.specs.Prelude.{ℕ, Bool, true, false, List, [], ◌∷◌, ◌≡◌, refl, get_or}
use Rattle.std.proofs.lemmas.Bool.{false≢true}
use Rattle.node.specs.Result.{Done}
use Rattle.language.specs.Tokens.{Token}
use Rattle.language.specs.Operators.{
  Arithmetic,
  Measure,
  Combination,
  Equal,
  Unequal,
  Less,
  AtMost,
  Greater,
  AtLeast,
  Big,
  BigSum,
  BigProduct,
  BigCap,
  BigCup,
  BigAnd,
  BigOr,
  Calculates,
  Combines,
  Compares,
  Membership,
  Connects,
  Measures,
  WidthOf,
  Applies,
}
use Rattle.language.specs.Tree.{Expr, Named, Numeral, Truth, Index, Paren, Prefixed, Joined, Nexts, InWindow, Each, Between, Listed, Empty, Element, Range}
use Rattle.language.specs.Braces.{Proper}
use Rattle.language.specs.Values.{Logic, Scope, value}
use Rattle.operands.specs.Entries.{own_kind}

pub data Class : Type 0 where
  a_name a_numeral a_formula a_paren a_measure a_width a_calculation a_combination a_big a_between a_listing an_element a_range : Class

-- by kind (crate entries, specs/Kinds), group by group; no expression has the kinds of big operators' names, nor the free ones
abbrev pub classes : List Class
classes =
    a_name ∷ a_numeral ∷ a_formula ∷ a_formula ∷ a_formula ∷ a_paren ∷ a_measure ∷ a_measure ∷ a_measure ∷ a_width ∷ a_formula ∷ a_formula ∷ a_formula ∷ a_formula ∷
    a_calculation ∷ a_calculation ∷ a_calculation ∷ a_calculation ∷ a_calculation ∷ a_combination ∷ a_combination ∷ a_combination ∷
    a_formula ∷ a_formula ∷ a_formula ∷ a_formula ∷ a_formula ∷ a_formula ∷ a_formula ∷ a_formula ∷ a_formula ∷ a_formula ∷ a_formula ∷ a_formula ∷ a_formula ∷ a_formula ∷ a_formula ∷ a_formula ∷ a_formula ∷
    a_big ∷ a_big ∷ a_big ∷ a_big ∷ a_big ∷ a_big ∷ a_between ∷ a_between ∷ a_between ∷ a_between ∷ a_between ∷ a_between ∷ a_listing ∷ an_element ∷ []

abbrev pub class_of : ℕ → Class
class_of k = get_or classes k a_range

abbrev pub View : Class → Expr → Type 0
View a_name e = (t : Token) × (e ≡ Named t)
View a_numeral e = (t : Token) × (e ≡ Numeral t)
View a_formula e = (sc : Scope) → value sc e ≡ Done Logic
View a_paren e = (t : Token) × (a : Expr) × (e ≡ Paren t a)
View a_width e = (t : Token) × (a : Expr) × (e ≡ Prefixed t WidthOf a)
View a_listing e = (t : Token) × (a : Expr) × (e ≡ Listed t a)
View an_element e = (a : Expr) × (b : Expr) × (e ≡ Element a b)
View a_range e = (t : Token) × (x : Expr) × (y : Expr) × (z : Expr) × (e ≡ Range t x y z)
View a_measure e = (t : Token) × (m : Measure) × (a : Expr) × (e ≡ Prefixed t (Measures m) a)
View a_calculation e = (t : Token) × (o : Arithmetic) × (a : Expr) × (b : Expr) × (e ≡ Joined t (Calculates o) a b)
View a_combination e = (t : Token) × (o : Combination) × (a : Expr) × (b : Expr) × (e ≡ Joined t (Combines o) a b)
View a_big e = (t : Token) × (o : Big) × (further : Bool) × (i : Token) × (s : Expr) × (a : Expr) × (e ≡ Each t o further i s a)
View a_between e = (t : Token) × (l : Bool) × (h : Bool) × (a : Expr) × (b : Expr) × (e ≡ Between t l h a b)

pub view : (e : Expr) → Proper false e → View (class_of (own_kind e)) e
view (Named t) p = (t, refl)
view (Numeral t) p = (t, refl)
view (Truth t b) p = λ sc. refl
view (Index t e) p = λ sc. refl
view (Paren t e) p = (t, e, refl)
view (Prefixed t (Measures m) e) p = (t, m, e, refl)
view (Prefixed t WidthOf e) p = (t, e, refl)
view (Prefixed t (Applies o) e) p = λ sc. refl
view (Joined t (Calculates o) a b) p = (t, o, a, b, refl)
view (Joined t (Combines o) a b) p = (t, o, a, b, refl)
view (Joined t (Compares Equal) a b) p = λ sc. refl
view (Joined t (Compares Unequal) a b) p = λ sc. refl
view (Joined t (Compares Less) a b) p = λ sc. refl
view (Joined t (Compares AtMost) a b) p = λ sc. refl
view (Joined t (Compares Greater) a b) p = λ sc. refl
view (Joined t (Compares AtLeast) a b) p = λ sc. refl
view (Joined t Membership a b) p = λ sc. refl
view (Joined t (Connects o) a b) p = λ sc. refl
view (Nexts t n e) p = λ sc. refl
view (InWindow t o n m e) p = λ sc. refl
view (Each t BigSum further i s e) p = (t, BigSum, further, i, s, e, refl)
view (Each t BigProduct further i s e) p = (t, BigProduct, further, i, s, e, refl)
view (Each t BigCap further i s e) p = (t, BigCap, further, i, s, e, refl)
view (Each t BigCup further i s e) p = (t, BigCup, further, i, s, e, refl)
view (Each t BigAnd further i s e) p = (t, BigAnd, further, i, s, e, refl)
view (Each t BigOr further i s e) p = (t, BigOr, further, i, s, e, refl)
view (Between t l false a b) p = (t, l, false, a, b, refl)
view (Between t l true a b) p = (t, l, true, a, b, refl)
view (Listed t es) p = (t, es, refl)
view Empty p = absurd (false≢true p)
view (Element e es) p = (e, es, refl)
view (Range t x y z) p = (t, x, y, z, refl)
