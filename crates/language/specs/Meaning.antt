-- The source's own meaning (document 01: 'The source's own meaning is fed an accepted text, an infinite word .. and a position t, and no nodes'). Numbers and
-- sets are worked out; of formulas nothing is expanded.
use Rattle.std.specs.Prelude.{ℕ, suc, ◌+◌, ◌≤◌, ◌<◌, ◌≡◌, Bool, true, false, ◌||◌, List, [], ◌∷◌, length, get_or}
use Rattle.std.proofs.Math.Bool.{So}
use Rattle.node.specs.Logic.{Either, Some}
use Rattle.node.specs.Temporal.{Property, Always}
use Rattle.node.specs.Operators.{UnaryMeans, BinaryMeans}
use Rattle.node.specs.Result.{Result, Done, Refused, ◌>>=◌}
use Rattle.language.specs.Bytes.{same}
use Rattle.language.specs.Tokens.{Token}
use Rattle.language.specs.Operators.{
  Comparison,
  Equal,
  Unequal,
  Less,
  AtMost,
  Greater,
  AtLeast,
  Big,
  BigSum,
  BigProduct,
  BigCap,
  BigCup,
  BigAnd,
  BigOr,
  Window,
  FinallyIn,
  GloballyIn,
  Calculates,
  Combines,
  Compares,
  Membership,
  Connects,
  Measures,
  WidthOf,
  Applies,
}
use Rattle.language.specs.Tree.{
  Expr,
  Named,
  Numeral,
  Truth,
  Index,
  Paren,
  Prefixed,
  Joined,
  Nexts,
  InWindow,
  Each,
  Between,
  Listed,
  Empty,
  Element,
  Range,
  Identifier,
  Definition,
  Defined,
  Enumerated,
  Declaration,
  OneSignal,
  OfWidth,
  OfType,
  Part,
  Initially,
  Preset,
  Require,
  Assert,
  Assume,
  Guarantee,
  Subsection,
  Inputs,
  Outputs,
  Lines,
  Model,
  Mealy,
  Moore,
  Spec,
}
use Rattle.language.specs.Sets.{member_of}
use Rattle.language.specs.Values.{Value, Number, Set, Logic, Bus, Unsized, Choice, number, set, bus, choice, Scope, naming, value}
use Rattle.language.specs.DeclaredNames.{declared, declarations}
use Rattle.language.specs.Parsing.{parsed}

-- '`&&[i IN M] e` holds if e does for each i in M, `||[i IN M] e` if for some'
abbrev pub EachMeans : Big → List ℕ → (ℕ → Type 0) → Type 0
EachMeans BigSum m P = ⊥
EachMeans BigProduct m P = ⊥
EachMeans BigCap m P = ⊥
EachMeans BigCup m P = ⊥
EachMeans BigAnd m P = (k : ℕ) → So (member_of m k) → P k
EachMeans BigOr m P = Some (λ k. So (member_of m k) × P k)

-- '`F[n:m] e` if e holds at some position n to m later, `G[n:m] e` if at each'
abbrev pub WindowMeans : Window → ℕ → ℕ → Property → Property
WindowMeans FinallyIn n m P t = Some (λ j. (n ≤ j) × (j ≤ m) × P (t + j))
WindowMeans GloballyIn n m P t = (j : ℕ) → n ≤ j → j ≤ m → P (t + j)

-- a declared signal: a single one by its name, a bus's bit by the bus's name and the bit's index
pub data Atom : Type 0 where
  SignalOf : (name : List ℕ) → Atom
  BitOf : (name : List ℕ) (index : ℕ) → Atom

-- 'an infinite word (the set of declared signals present at each position from 0 on)'
abbrev pub Word : Type 0
Word = ℕ → Atom → Bool

-- 'a signal or bus bit holds where it is present'
abbrev pub Holding : Atom → Word → Property
Holding a w p = So (w p a)

-- 'its bits match one of the value's words, a star matching both': the marks are the bytes of `0` (48), `1` (49), `*`
abbrev pub Fits : ℕ → Type 0 → Type 0
Fits mark P = (mark ≡ 48 → ¬ P) × (mark ≡ 49 → P)

abbrev pub Matches : List ℕ → List ℕ → Word → Property
Matches x marks w p = (i : ℕ) → i < length marks → Fits (get_or marks i 0) (Holding (BitOf x i) w p)

abbrev pub MatchesOne : List ℕ → List Token → Word → Property
MatchesOne x [] w p = ⊥
MatchesOne x (v ∷ vs) w p = Either (Matches x v.text w p) (MatchesOne x vs w p)

-- 'A comparison of numbers .. is as its values say'
abbrev pub Relates : Comparison → ℕ → ℕ → Type 0
Relates Equal a b = a ≡ b
Relates Unequal a b = ¬ (a ≡ b)
Relates Less a b = a < b
Relates AtMost a b = a ≤ b
Relates Greater a b = b < a
Relates AtLeast a b = b ≤ a

-- 'a bus equals a value if ..', 'and `!=` is the contrary'
abbrev pub Equals : Comparison → Type 0 → Type 0
Equals Equal P = P
Equals Unequal P = ¬ P
Equals Less P = ⊥
Equals AtMost P = ⊥
Equals Greater P = ⊥
Equals AtLeast P = ⊥

-- a result, of which the text's acceptance says that it is no refusal
abbrev pub or_else : {A : Type 0} → A → Result A → A
or_else d (Done a) = a
or_else d (Refused n p) = d

abbrev pub the_number : Result Value → ℕ
the_number r = or_else 0 (r >>= number)

abbrev pub the_set : Result Value → List ℕ
the_set r = or_else [] (r >>= set)

abbrev pub the_words : Result Value → List Token
the_words r = or_else [] (r >>= choice)

-- the name of a bus
abbrev pub the_bus : Result Value → List ℕ
the_bus r = or_else [] (r >>= λ v. bus v >>= λ b. Done b.name)

-- the left side tells what is compared: numbers, or a bus and an identifier in either order
abbrev pub SidesMean : Comparison → Value → Result Value → Word → Property
SidesMean o (Number a) r w p = Relates o a (the_number r)
SidesMean o (Set s) r w p = ⊥
SidesMean o Logic r w p = ⊥
SidesMean o (Bus q x n) r w p = Equals o (MatchesOne x (the_words r) w p)
SidesMean o (Unsized q) r w p = ⊥
SidesMean o (Choice v) r w p = Equals o (MatchesOne (the_bus r) v w p)

-- what the visible names stand for, and what those of formulas mean
pub record Sense : Type 1 where
  pub values : Scope
  pub means : Token → Word → Property

abbrev pub with : Sense → Token → ℕ → Sense
with c i k = record { values = naming i (Done (Number k)) c.values; means = c.means }

-- 'Boolean operators, X, F, G, U, R and W are Appendix A.1's'
abbrev pub Means : Sense → Expr → Word → Property
Means c (Named t) w p = c.means t w p
Means c (Numeral t) w p = ⊥
Means c (Truth t b) w p = So b
Means c (Index t e) w p = Holding (BitOf (the_bus (c.values t)) (the_number (value c.values e))) w p
Means c (Paren t e) w p = Means c e w p
Means c (Prefixed t (Measures m) e) w p = ⊥
Means c (Prefixed t WidthOf e) w p = ⊥
Means c (Prefixed t (Applies o) e) w p = UnaryMeans o (Means c e w) p
Means c (Joined t (Calculates o) a b) w p = ⊥
Means c (Joined t (Combines o) a b) w p = ⊥
Means c (Joined t (Compares o) a b) w p = SidesMean o (or_else Logic (value c.values a)) (value c.values b) w p
Means c (Joined t Membership a b) w p = So (member_of (the_set (value c.values b)) (the_number (value c.values a)))
Means c (Joined t (Connects o) a b) w p = BinaryMeans o (Means c a w) (Means c b w) p
Means c (Nexts t n e) w p = Means c e w (p + the_number (value c.values n))
Means c (InWindow t o n m e) w p = WindowMeans o (the_number (value c.values n)) (the_number (value c.values m)) (Means c e w) p
Means c (Each t o further i s e) w p = EachMeans o (the_set (value c.values s)) (λ k. Means (with c i k) e w p)
Means c (Between t l h a b) w p = ⊥
Means c (Listed t es) w p = ⊥
Means c Empty w p = ⊥
Means c (Element e es) w p = ⊥
Means c (Range t x y z) w p = ⊥

-- a name that no definition brings is a signal's
abbrev pub present : Scope → Sense
present sc = record { values = sc; means = λ t. Holding (SignalOf t.text) }

-- 'a definition means what its body does'
abbrev pub meaning : Sense → Token → Expr → Sense
meaning c x e =
    record {
      values = naming x (value c.values e) c.values;
      means = λ t w p. elim (same x.text t.text) [ true ↦ Means c e w p | false ↦ c.means t w p ];
    }

abbrev pub meaning_all : Sense → List Definition → Sense
meaning_all c [] = c
meaning_all c (Defined x e ∷ ds) = meaning_all (meaning c x e) ds
meaning_all c (Enumerated x is ∷ ds) = meaning_all c ds

-- 'An implied bus line (the bus matches one of its enumeration's words)': the bus x, declared by the enumeration u
abbrev pub MatchesIdentifier : List ℕ → List Identifier → Word → Property
MatchesIdentifier x [] w p = ⊥
MatchesIdentifier x (i ∷ is) w p = Either (MatchesOne x i.words w p) (MatchesIdentifier x is w p)

abbrev pub ImpliedMeans : List Definition → Token → Token → Word → Property
ImpliedMeans [] u x w p = ⊥
ImpliedMeans (Defined y e ∷ ds) u x w p = ImpliedMeans ds u x w p
ImpliedMeans (Enumerated y is ∷ ds) u x w p =
    elim (same y.text u.text) [ true ↦ MatchesIdentifier x.text is w p | false ↦ ImpliedMeans ds u x w p ]

-- the implied lines of INPUTS or OUTPUTS, and the written ones of a section
abbrev pub DeclarationsMean : List Definition → List Declaration → Word → Property
DeclarationsMean defs [] w p = Unit {0}
DeclarationsMean defs (OneSignal x ∷ ds) w p = DeclarationsMean defs ds w p
DeclarationsMean defs (OfWidth x e ∷ ds) w p = DeclarationsMean defs ds w p
DeclarationsMean defs (OfType u x ∷ ds) w p = ImpliedMeans defs u x w p × DeclarationsMean defs ds w p

abbrev pub LinesMean : Sense → List Expr → Word → Property
LinesMean c [] w p = Unit {0}
LinesMean c (e ∷ es) w p = Means c e w p × LinesMean c es w p

-- '.. counts as a line of its section, which holds where all its lines do': REQUIRE has those of inputs, ASSERT those of outputs
abbrev pub IsPart : Part → Part → Type 0
IsPart s q = s ≡ q

abbrev pub SectionMeans : Sense → List Definition → List Subsection → Part → Word → Property
SectionMeans c defs [] s w p = Unit {0}
SectionMeans c defs (Inputs ds ∷ ss) s w p = (IsPart s Require → DeclarationsMean defs ds w p) × SectionMeans c defs ss s w p
SectionMeans c defs (Outputs ds ∷ ss) s w p = (IsPart s Assert → DeclarationsMean defs ds w p) × SectionMeans c defs ss s w p
SectionMeans c defs (Lines q es ∷ ss) s w p = (IsPart s q → LinesMean c es w p) × SectionMeans c defs ss s w p

-- 'ASSERT is owed .. at each p from t on with REQUIRE true at t to p'
abbrev pub Owed : Property → Property → Property
Owed Q R t = (p : ℕ) → t ≤ p → ((j : ℕ) → t ≤ j → j ≤ p → R j) → Q p

-- 'The text holds at t if INITIALLY fails there, or PRESET holds at t and, should REQUIRE hold at each position from t on and ASSUME at t, ASSERT holds at each
-- from t on and GUARANTEE at t. Strict: ASSERT is owed without that condition ..'
abbrev pub WholeMeans : Bool → (Part → Property) → Property
WholeMeans false P t =
    Either (¬ P Initially t) (P Preset t × ((Always (P Require) t × P Assume t) → (Always (P Assert) t × P Guarantee t)))
WholeMeans true P t =
    Either (¬ P Initially t)
    (P Preset t × Owed (P Assert) (P Require) t × ((Always (P Require) t × P Assume t) → P Guarantee t))

-- the names before any definition, the text's numbers and widths worked out
abbrev pub names_of : Spec → Scope
names_of x = declared (or_else [] (declarations x >>= λ d. Done d.table))

abbrev pub SpecMeans : Spec → Word → Property
SpecMeans x w t =
    let c = meaning_all (present (names_of x)) x.definitions in
    WholeMeans x.strict (λ s. SectionMeans c x.definitions x.main s w) t

-- is the name declared here?
abbrev pub is_declared : List Declaration → List ℕ → Bool
is_declared [] x = false
is_declared (OneSignal y ∷ ds) x = same y.text x || is_declared ds x
is_declared (OfWidth y e ∷ ds) x = same y.text x || is_declared ds x
is_declared (OfType u y ∷ ds) x = same y.text x || is_declared ds x

-- .. in OUTPUTS?
abbrev pub is_output_name : List Subsection → List ℕ → Bool
is_output_name [] x = false
is_output_name (Inputs ds ∷ ss) x = is_output_name ss x
is_output_name (Outputs ds ∷ ss) x = is_declared ds x || is_output_name ss x
is_output_name (Lines q es ∷ ss) x = is_output_name ss x

abbrev pub name_of : Atom → List ℕ
name_of (SignalOf x) = x
name_of (BitOf x i) = x

-- 'For a converted file, the source's meaning reads the shifted signals one position later': the outputs from Mealy to Moore, the inputs from Moore to
-- Mealy
abbrev pub read_as : Model → Model → List Subsection → Word → Word
read_as Mealy Mealy ss w = w
read_as Mealy Moore ss w = λ t a. elim (is_output_name ss (name_of a)) [ true ↦ w (suc t) a | false ↦ w t a ]
read_as Moore Mealy ss w = λ t a. elim (is_output_name ss (name_of a)) [ true ↦ w t a | false ↦ w (suc t) a ]
read_as Moore Moore ss w = w

-- a text's meaning, from its bytes; a text that is refused means nothing
abbrev pub OfSpec : Result Spec → Word → Property
OfSpec (Done x) w t = SpecMeans x (read_as x.semantics x.target x.main w) t
OfSpec (Refused n p) w t = ⊥

abbrev pub TextMeans : List ℕ → Word → Property
TextMeans text w t = OfSpec (parsed text) w t
