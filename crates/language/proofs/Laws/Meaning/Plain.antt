-- Document 01's text on the source's own meaning once more, with the plain 'or' and 'some' and Appendix A.1's operators as printed. `Adequacy` shows that `Meaning`
-- says the same.
use Rattle.std.specs.Prelude.{ℕ, ◌+◌, ◌≤◌, Bool, true, false, List, [], ◌∷◌}
use Rattle.std.proofs.Math.Bool.{So}
use Rattle.std.proofs.Math.Logic.{◌∨₁◌}
use Rattle.node.specs.Temporal.{Property, Always}
use Rattle.node.proofs.Adequacy.{UnaryA1, BinaryA1}
use Rattle.node.specs.Result.{Result, Done, Refused}
use Rattle.language.specs.Bytes.{same}
use Rattle.language.specs.Tokens.{Token}
use Rattle.language.specs.Operators.{
  Comparison,
  Big,
  BigSum,
  BigProduct,
  BigCap,
  BigCup,
  BigAnd,
  BigOr,
  Window,
  FinallyIn,
  GloballyIn,
  Calculates,
  Combines,
  Compares,
  Membership,
  Connects,
  Measures,
  WidthOf,
  Applies,
}
use Rattle.language.specs.Tree.{
  Expr,
  Named,
  Numeral,
  Truth,
  Index,
  Paren,
  Prefixed,
  Joined,
  Nexts,
  InWindow,
  Each,
  Between,
  Listed,
  Empty,
  Element,
  Range,
  Identifier,
  Definition,
  Defined,
  Enumerated,
  Declaration,
  OneSignal,
  OfWidth,
  OfType,
  Part,
  Initially,
  Preset,
  Require,
  Assert,
  Assume,
  Guarantee,
  Subsection,
  Inputs,
  Outputs,
  Lines,
  Spec,
}
use Rattle.language.specs.Sets.{member_of}
use Rattle.language.specs.Values.{Value, Number, Set, Logic, Bus, Unsized, Choice, naming, value}
use Rattle.language.specs.Parsing.{parsed}
use Rattle.language.specs.Meaning.{BitOf, Word, Holding, Matches, Relates, Equals, or_else, the_number, the_set, the_words, the_bus, Sense, with, present, IsPart, Owed, names_of, read_as}

-- '`&&[i IN M] e` holds if e does for each i in M, `||[i IN M] e` if for some'
abbrev pub EachPlain : Big → List ℕ → (ℕ → Type 0) → Type 0
EachPlain BigSum m P = ⊥
EachPlain BigProduct m P = ⊥
EachPlain BigCap m P = ⊥
EachPlain BigCup m P = ⊥
EachPlain BigAnd m P = (k : ℕ) → So (member_of m k) → P k
EachPlain BigOr m P = ∥ ((k : ℕ) × (So (member_of m k) × P k)) ∥₁

-- '`F[n:m] e` if e holds at some position n to m later, `G[n:m] e` if at each'
abbrev pub WindowPlain : Window → ℕ → ℕ → Property → Property
WindowPlain FinallyIn n m P t = ∥ ((j : ℕ) × ((n ≤ j) × (j ≤ m) × P (t + j))) ∥₁
WindowPlain GloballyIn n m P t = (j : ℕ) → n ≤ j → j ≤ m → P (t + j)

-- 'its bits match one of the value's words'
abbrev pub OnePlain : List ℕ → List Token → Word → Property
OnePlain x [] w p = ⊥
OnePlain x (v ∷ vs) w p = Matches x v.text w p ∨₁ OnePlain x vs w p

abbrev pub SidesPlain : Comparison → Value → Result Value → Word → Property
SidesPlain o (Number a) r w p = Relates o a (the_number r)
SidesPlain o (Set s) r w p = ⊥
SidesPlain o Logic r w p = ⊥
SidesPlain o (Bus q x n) r w p = Equals o (OnePlain x (the_words r) w p)
SidesPlain o (Unsized q) r w p = ⊥
SidesPlain o (Choice v) r w p = Equals o (OnePlain (the_bus r) v w p)

-- 'Boolean operators, X, F, G, U, R and W are Appendix A.1's'
abbrev pub MeansPlain : Sense → Expr → Word → Property
MeansPlain c (Named t) w p = c.means t w p
MeansPlain c (Numeral t) w p = ⊥
MeansPlain c (Truth t b) w p = So b
MeansPlain c (Index t e) w p = Holding (BitOf (the_bus (c.values t)) (the_number (value c.values e))) w p
MeansPlain c (Paren t e) w p = MeansPlain c e w p
MeansPlain c (Prefixed t (Measures m) e) w p = ⊥
MeansPlain c (Prefixed t WidthOf e) w p = ⊥
MeansPlain c (Prefixed t (Applies o) e) w p = UnaryA1 o (MeansPlain c e w) p
MeansPlain c (Joined t (Calculates o) a b) w p = ⊥
MeansPlain c (Joined t (Combines o) a b) w p = ⊥
MeansPlain c (Joined t (Compares o) a b) w p = SidesPlain o (or_else Logic (value c.values a)) (value c.values b) w p
MeansPlain c (Joined t Membership a b) w p = So (member_of (the_set (value c.values b)) (the_number (value c.values a)))
MeansPlain c (Joined t (Connects o) a b) w p = BinaryA1 o (MeansPlain c a w) (MeansPlain c b w) p
MeansPlain c (Nexts t n e) w p = MeansPlain c e w (p + the_number (value c.values n))
MeansPlain c (InWindow t o n m e) w p = WindowPlain o (the_number (value c.values n)) (the_number (value c.values m)) (MeansPlain c e w) p
MeansPlain c (Each t o further i s e) w p = EachPlain o (the_set (value c.values s)) (λ k. MeansPlain (with c i k) e w p)
MeansPlain c (Between t l h a b) w p = ⊥
MeansPlain c (Listed t es) w p = ⊥
MeansPlain c Empty w p = ⊥
MeansPlain c (Element e es) w p = ⊥
MeansPlain c (Range t x y z) w p = ⊥

-- 'a definition means what its body does'
abbrev pub meaning_plain : Sense → Token → Expr → Sense
meaning_plain c x e =
    record {
      values = naming x (value c.values e) c.values;
      means = λ t w p. elim (same x.text t.text) [ true ↦ MeansPlain c e w p | false ↦ c.means t w p ];
    }

abbrev pub meaning_all_plain : Sense → List Definition → Sense
meaning_all_plain c [] = c
meaning_all_plain c (Defined x e ∷ ds) = meaning_all_plain (meaning_plain c x e) ds
meaning_all_plain c (Enumerated x is ∷ ds) = meaning_all_plain c ds

-- 'An implied bus line (the bus matches one of its enumeration's words) counts as a line of its section'
abbrev pub IdentifierPlain : List ℕ → List Identifier → Word → Property
IdentifierPlain x [] w p = ⊥
IdentifierPlain x (i ∷ is) w p = OnePlain x i.words w p ∨₁ IdentifierPlain x is w p

abbrev pub ImpliedPlain : List Definition → Token → Token → Word → Property
ImpliedPlain [] u x w p = ⊥
ImpliedPlain (Defined y e ∷ ds) u x w p = ImpliedPlain ds u x w p
ImpliedPlain (Enumerated y is ∷ ds) u x w p =
    elim (same y.text u.text) [ true ↦ IdentifierPlain x.text is w p | false ↦ ImpliedPlain ds u x w p ]

abbrev pub DeclarationsPlain : List Definition → List Declaration → Word → Property
DeclarationsPlain defs [] w p = Unit {0}
DeclarationsPlain defs (OneSignal x ∷ ds) w p = DeclarationsPlain defs ds w p
DeclarationsPlain defs (OfWidth x e ∷ ds) w p = DeclarationsPlain defs ds w p
DeclarationsPlain defs (OfType u x ∷ ds) w p = ImpliedPlain defs u x w p × DeclarationsPlain defs ds w p

-- '.. which holds where all its lines do'
abbrev pub LinesPlain : Sense → List Expr → Word → Property
LinesPlain c [] w p = Unit {0}
LinesPlain c (e ∷ es) w p = MeansPlain c e w p × LinesPlain c es w p

abbrev pub SectionPlain : Sense → List Definition → List Subsection → Part → Word → Property
SectionPlain c defs [] s w p = Unit {0}
SectionPlain c defs (Inputs ds ∷ ss) s w p = (IsPart s Require → DeclarationsPlain defs ds w p) × SectionPlain c defs ss s w p
SectionPlain c defs (Outputs ds ∷ ss) s w p = (IsPart s Assert → DeclarationsPlain defs ds w p) × SectionPlain c defs ss s w p
SectionPlain c defs (Lines q es ∷ ss) s w p = (IsPart s q → LinesPlain c es w p) × SectionPlain c defs ss s w p

-- 'The text holds at t if INITIALLY fails there, or PRESET holds at t and ..'
abbrev pub WholePlain : Bool → (Part → Property) → Property
WholePlain false P t = (¬ P Initially t) ∨₁ (P Preset t × ((Always (P Require) t × P Assume t) → (Always (P Assert) t × P Guarantee t)))
WholePlain true P t =
    (¬ P Initially t) ∨₁ (P Preset t × Owed (P Assert) (P Require) t × ((Always (P Require) t × P Assume t) → P Guarantee t))

abbrev pub SpecPlain : Spec → Word → Property
SpecPlain x w t =
    let c = meaning_all_plain (present (names_of x)) x.definitions in
    WholePlain x.strict (λ s. SectionPlain c x.definitions x.main s w) t

abbrev pub OfSpecPlain : Result Spec → Word → Property
OfSpecPlain (Done x) w t = SpecPlain x (read_as x.semantics x.target x.main w) t
OfSpecPlain (Refused n p) w t = ⊥

abbrev pub TextPlain : List ℕ → Word → Property
TextPlain text w t = OfSpecPlain (parsed text) w t
