-- What an entry's kind says of how its formula is made, and what each such making says of the expression.
use Rattle.std.specs.Prelude.{ℕ, Bool, true, false, List, [], ◌∷◌, ◌≡◌, refl, get_or}
use Rattle.node.specs.Operators.{Unary, Binary}
use Rattle.language.specs.Tokens.{Token}
use Rattle.language.specs.Operators.{
  Comparison,
  Equal,
  Unequal,
  Less,
  AtMost,
  Greater,
  AtLeast,
  Big,
  BigSum,
  BigProduct,
  BigCap,
  BigCup,
  BigAnd,
  BigOr,
  Window,
  Calculates,
  Combines,
  Compares,
  Membership,
  Connects,
  Measures,
  WidthOf,
  Applies,
}
use Rattle.language.specs.Tree.{Expr, Named, Numeral, Truth, Index, Paren, Prefixed, Joined, Nexts, InWindow, Each, Between, Listed, Empty, Element, Range}
use Rattle.language.specs.Values.{misfit}
use Rattle.language.specs.Expansion.{Context, expansion}
use Rattle.operands.specs.Entries.{own_kind}

pub data Making : Type 0 where
  a_name a_misfit a_truth an_index a_paren a_unary a_comparison a_membership a_connective a_repetition a_window a_big : Making

-- by kind (crate entries, specs/Kinds), group by group
abbrev pub makings : List Making
makings =
    a_name ∷ a_misfit ∷ a_truth ∷ a_truth ∷ an_index ∷ a_paren ∷ a_misfit ∷ a_misfit ∷ a_misfit ∷ a_misfit ∷ a_unary ∷ a_unary ∷ a_unary ∷ a_unary ∷
    a_misfit ∷ a_misfit ∷ a_misfit ∷ a_misfit ∷ a_misfit ∷ a_misfit ∷ a_misfit ∷ a_misfit ∷
    a_comparison ∷ a_comparison ∷ a_comparison ∷ a_comparison ∷ a_comparison ∷ a_comparison ∷ a_membership ∷
    a_connective ∷ a_connective ∷ a_connective ∷ a_connective ∷ a_connective ∷ a_connective ∷ a_connective ∷ a_repetition ∷ a_window ∷ a_window ∷
    a_big ∷ a_big ∷ a_big ∷ a_big ∷ a_big ∷ a_big ∷ []

abbrev pub making_of : ℕ → Making
making_of k = get_or makings k a_misfit

abbrev pub View : Making → Expr → Type 0
View a_name e = (t : Token) × (e ≡ Named t)
View a_misfit e = (c : Context) → expansion c e ≡ misfit
View an_index e = (t : Token) × (a : Expr) × (e ≡ Index t a)
View a_paren e = (t : Token) × (a : Expr) × (e ≡ Paren t a)
View a_membership e = (t : Token) × (a : Expr) × (b : Expr) × (e ≡ Joined t Membership a b)
View a_repetition e = (t : Token) × (a : Expr) × (b : Expr) × (e ≡ Nexts t a b)
View a_truth e = (t : Token) × (b : Bool) × (e ≡ Truth t b)
View a_unary e = (t : Token) × (o : Unary) × (a : Expr) × (e ≡ Prefixed t (Applies o) a)
View a_comparison e = (t : Token) × (o : Comparison) × (a : Expr) × (b : Expr) × (e ≡ Joined t (Compares o) a b)
View a_connective e = (t : Token) × (o : Binary) × (a : Expr) × (b : Expr) × (e ≡ Joined t (Connects o) a b)
View a_window e = (t : Token) × (o : Window) × (x : Expr) × (y : Expr) × (z : Expr) × (e ≡ InWindow t o x y z)
View a_big e = (t : Token) × (o : Big) × (further : Bool) × (i : Token) × (s : Expr) × (a : Expr) × (e ≡ Each t o further i s a)

pub view : (e : Expr) → View (making_of (own_kind e)) e
view (Named t) = (t, refl)
view (Numeral t) = λ c. refl
view (Truth t b) = (t, b, refl)
view (Index t e) = (t, e, refl)
view (Paren t e) = (t, e, refl)
view (Prefixed t (Measures m) e) = λ c. refl
view (Prefixed t WidthOf e) = λ c. refl
view (Prefixed t (Applies o) e) = (t, o, e, refl)
view (Joined t (Calculates o) a b) = λ c. refl
view (Joined t (Combines o) a b) = λ c. refl
view (Joined t (Compares Equal) a b) = (t, Equal, a, b, refl)
view (Joined t (Compares Unequal) a b) = (t, Unequal, a, b, refl)
view (Joined t (Compares Less) a b) = (t, Less, a, b, refl)
view (Joined t (Compares AtMost) a b) = (t, AtMost, a, b, refl)
view (Joined t (Compares Greater) a b) = (t, Greater, a, b, refl)
view (Joined t (Compares AtLeast) a b) = (t, AtLeast, a, b, refl)
view (Joined t Membership a b) = (t, a, b, refl)
view (Joined t (Connects o) a b) = (t, o, a, b, refl)
view (Nexts t n e) = (t, n, e, refl)
view (InWindow t o n m e) = (t, o, n, m, e, refl)
view (Each t BigSum further i s e) = (t, BigSum, further, i, s, e, refl)
view (Each t BigProduct further i s e) = (t, BigProduct, further, i, s, e, refl)
view (Each t BigCap further i s e) = (t, BigCap, further, i, s, e, refl)
view (Each t BigCup further i s e) = (t, BigCup, further, i, s, e, refl)
view (Each t BigAnd further i s e) = (t, BigAnd, further, i, s, e, refl)
view (Each t BigOr further i s e) = (t, BigOr, further, i, s, e, refl)
view (Between t l false a b) = λ c. refl
view (Between t l true a b) = λ c. refl
view (Listed t es) = λ c. refl
view Empty = λ c. refl
view (Element e es) = λ c. refl
view (Range t x y z) = λ c. refl
