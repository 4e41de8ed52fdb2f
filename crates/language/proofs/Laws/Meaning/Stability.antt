-- What an expression means holds unless it is refuted: 'or' and 'some' stand for the negation of something, a signal is there or not, and numbers can be compared.
use Rattle.std.specs.Prelude.{ℕ, ◌+◌, Bool, true, false, List, [], ◌∷◌, ◌↔◌}
use Rattle.node.specs.Logic.{Stable}
use Rattle.node.proofs.LogicLaws.{stable-not, stable_to, stable-all, stable_so}
use Rattle.node.specs.Temporal.{Property}
use Rattle.node.proofs.TemporalLaws.{StableAll}
use Rattle.node.proofs.LtlLaws.{stable-unary, stable-binary}
use Rattle.node.specs.Result.{Result, Done}
use Rattle.language.specs.Tokens.{Token}
use Rattle.language.specs.Operators.{
  Comparison,
  Equal,
  Unequal,
  Less,
  AtMost,
  Greater,
  AtLeast,
  Big,
  BigSum,
  BigProduct,
  BigCap,
  BigCup,
  BigAnd,
  BigOr,
  Window,
  FinallyIn,
  GloballyIn,
  Calculates,
  Combines,
  Compares,
  Membership,
  Connects,
  Measures,
  WidthOf,
  Applies,
}
use Rattle.language.specs.Tree.{Expr, Named, Numeral, Truth, Index, Paren, Prefixed, Joined, Nexts, InWindow, Each, Between, Listed, Empty, Element, Range}
use Rattle.language.specs.Values.{Value, Number, Set, Logic, Bus, Unsized, Choice, Scope, naming, value}
use Rattle.language.specs.Expansion.{test}
use Rattle.language.specs.Meaning.{EachMeans, WindowMeans, Word, MatchesOne, Relates, Equals, or_else, the_number, the_set, the_words, the_bus, SidesMean, Sense, Means}
use Rattle.language.proofs.Laws.Meaning.Comparisons.{test_relates}

-- what names mean
abbrev pub Names : Type 1
Names = Token → Word → Property

abbrev pub sense : Scope → Names → Sense
sense sc m = record { values = sc; means = m }

stable-never : Stable ⊥
stable-never h = h (λ e. e)

stable_as : {A B : Type 0} → A ↔ B → Stable A → Stable B
stable_as e s h = e.0 (s (λ n. h (λ b. n (e.1 b))))

stable_relates : (o : Comparison) (a b : ℕ) → Stable (Relates o a b)
stable_relates o a b = stable_as (test_relates o a b) (stable_so (test o a b))

stable_equals : (o : Comparison) {P : Type 0} → Stable P → Stable (Equals o P)
stable_equals Equal s = s
stable_equals Unequal s = stable-not
stable_equals Less s = stable-never
stable_equals AtMost s = stable-never
stable_equals Greater s = stable-never
stable_equals AtLeast s = stable-never

stable-one : (x : List ℕ) (vs : List Token) (w : Word) → StableAll (MatchesOne x vs w)
stable-one x [] w p = stable-never
stable-one x (v ∷ vs) w p = stable-not

stable_sides : (o : Comparison) (v : Value) (r : Result Value) (w : Word) → StableAll (SidesMean o v r w)
stable_sides o (Number a) r w p = stable_relates o a (the_number r)
stable_sides o (Set s) r w p = stable-never
stable_sides o Logic r w p = stable-never
stable_sides o (Bus q x n) r w p = stable_equals o (stable-one x (the_words r) w p)
stable_sides o (Unsized q) r w p = stable-never
stable_sides o (Choice v) r w p = stable_equals o (stable-one (the_bus r) v w p)

stable-each : (o : Big) (m : List ℕ) {P : ℕ → Type 0} → ((k : ℕ) → Stable (P k)) → Stable (EachMeans o m P)
stable-each BigSum m s = stable-never
stable-each BigProduct m s = stable-never
stable-each BigCap m s = stable-never
stable-each BigCup m s = stable-never
stable-each BigAnd m s = stable-all (λ k. stable_to (s k))
stable-each BigOr m s = stable-not

stable-window : (o : Window) (n m : ℕ) {P : Property} → StableAll P → StableAll (WindowMeans o n m P)
stable-window FinallyIn n m s t = stable-not
stable-window GloballyIn n m s t = stable-all (λ j. stable_to (stable_to (s (t + j))))

pub means_stable : (sc : Scope) (m : Names) → ((t : Token) (w : Word) → StableAll (m t w)) → (e : Expr) (w : Word) → StableAll (Means (sense sc m) e w)
means_stable sc m h (Named t) w p = h t w p
means_stable sc m h (Numeral t) w p = stable-never
means_stable sc m h (Truth t b) w p = stable_so b
means_stable sc m h (Index t e) w p = stable_so _
means_stable sc m h (Paren t e) w p = means_stable sc m h e w p
means_stable sc m h (Prefixed t (Measures q) e) w p = stable-never
means_stable sc m h (Prefixed t WidthOf e) w p = stable-never
means_stable sc m h (Prefixed t (Applies o) e) w p = stable-unary o (means_stable sc m h e w) p
means_stable sc m h (Joined t (Calculates o) a b) w p = stable-never
means_stable sc m h (Joined t (Combines o) a b) w p = stable-never
means_stable sc m h (Joined t (Compares o) a b) w p = stable_sides o (or_else Logic (value sc a)) (value sc b) w p
means_stable sc m h (Joined t Membership a b) w p = stable_so _
means_stable sc m h (Joined t (Connects o) a b) w p = stable-binary o (means_stable sc m h a w) (means_stable sc m h b w) p
means_stable sc m h (Nexts t n e) w p = means_stable sc m h e w (p + the_number (value sc n))
means_stable sc m h (InWindow t o n k e) w p = stable-window o (the_number (value sc n)) (the_number (value sc k)) (means_stable sc m h e w) p
means_stable sc m h (Each t o further i s e) w p = stable-each o (the_set (value sc s)) (λ k. means_stable (naming i (Done (Number k)) sc) m h e w p)
means_stable sc m h (Between t l u a b) w p = stable-never
means_stable sc m h (Listed t es) w p = stable-never
means_stable sc m h Empty w p = stable-never
means_stable sc m h (Element e es) w p = stable-never
means_stable sc m h (Range t x y z) w p = stable-never

-- what a definition adds
pub choice-stable : (b : Bool) {P Q : Property} → StableAll P → StableAll Q → StableAll (λ p. elim b [ true ↦ P p | false ↦ Q p ])
choice-stable true s u p = s p
choice-stable false s u p = u p
