-- Under excluded middle, a parameter here, `Meaning` is document 01's text with the plain 'or' and 'some' and Appendix A.1's operators as printed (`Plain`): the two
-- hold at the same positions, by induction over the expression. A.1's derivations need that what an expression means holds unless it is refuted (`Stability`).
use Prim.Axiom.{Lem}
use Rattle.std.specs.Prelude.{ℕ, ◌+◌, Bool, true, false, List, [], ◌∷◌, ◌↔◌}
use Rattle.std.proofs.Math.Logic.Iff as Equiv
use Rattle.node.proofs.LogicLaws.{stable_so, some_same, all_same, to_same}
use Rattle.node.specs.Temporal.{Property, Always}
use Rattle.node.proofs.TemporalLaws.{Same, StableAll, always_same}
use Rattle.node.proofs.Adequacy.{or-plain, some_plain, unary-plain, binary-plain}
use Rattle.node.specs.Result.{Result, Done, Refused}
use Rattle.language.specs.Bytes.{same}
use Rattle.language.specs.Tokens.{Token}
use Rattle.language.specs.Operators.{
  Comparison,
  Equal,
  Unequal,
  Less,
  AtMost,
  Greater,
  AtLeast,
  Big,
  BigSum,
  BigProduct,
  BigCap,
  BigCup,
  BigAnd,
  BigOr,
  Window,
  FinallyIn,
  GloballyIn,
  Calculates,
  Combines,
  Compares,
  Membership,
  Connects,
  Measures,
  WidthOf,
  Applies,
}
use Rattle.language.specs.Tree.{
  Expr,
  Named,
  Numeral,
  Truth,
  Index,
  Paren,
  Prefixed,
  Joined,
  Nexts,
  InWindow,
  Each,
  Between,
  Listed,
  Empty,
  Element,
  Range,
  Identifier,
  Definition,
  Defined,
  Enumerated,
  Declaration,
  OneSignal,
  OfWidth,
  OfType,
  Part,
  Initially,
  Preset,
  Require,
  Assert,
  Assume,
  Guarantee,
  Subsection,
  Inputs,
  Outputs,
  Lines,
  Spec,
}
use Rattle.language.specs.Values.{Value, Number, Set, Logic, Bus, Unsized, Choice, Scope, naming, value}
use Rattle.language.specs.Parsing.{parsed}
use Rattle.language.specs.Meaning.{
  EachMeans,
  WindowMeans,
  SignalOf,
  Word,
  Holding,
  MatchesOne,
  Equals,
  or_else,
  the_number,
  the_set,
  the_words,
  the_bus,
  SidesMean,
  Means,
  meaning,
  meaning_all,
  MatchesIdentifier,
  ImpliedMeans,
  DeclarationsMean,
  LinesMean,
  SectionMeans,
  WholeMeans,
  names_of,
  read_as,
  OfSpec,
  TextMeans,
}
use Rattle.language.proofs.Laws.Meaning.OwedLaws.{owed_same}
use Rattle.language.proofs.Laws.Meaning.Stability.{Names, sense, means_stable, choice-stable}
use Rattle.language.proofs.Laws.Meaning.Plain.{
  EachPlain,
  WindowPlain,
  OnePlain,
  SidesPlain,
  MeansPlain,
  meaning_plain,
  meaning_all_plain,
  IdentifierPlain,
  ImpliedPlain,
  DeclarationsPlain,
  LinesPlain,
  SectionPlain,
  WholePlain,
  OfSpecPlain,
  TextPlain,
}

-- a choice between what means the same
choice-same : (b : Bool) {P P' Q Q' : Property} → Same P P' → Same Q Q' → Same (λ p. elim b [ true ↦ P p | false ↦ Q p ]) (λ p. elim b [ true ↦ P' p | false ↦ Q' p ])
choice-same true h k p = h p
choice-same false h k p = k p

equals_same : (o : Comparison) {A B : Type 0} → A ↔ B → Equals o A ↔ Equals o B
equals_same Equal h = h
equals_same Unequal h = Equiv.not h
equals_same Less h = Equiv.rfl
equals_same AtMost h = Equiv.rfl
equals_same Greater h = Equiv.rfl
equals_same AtLeast h = Equiv.rfl

three : {A B C A' B' C' : Type 0} → A ↔ A' → B ↔ B' → C ↔ C' → (A × B × C) ↔ (A' × B' × C')
three f g h = (λ c. (f.0 c.0, g.0 c.1, h.0 c.2), λ c. (f.1 c.0, g.1 c.1, h.1 c.2))

-- 'should REQUIRE hold at each position from t on and ASSUME at t'
due : {P Q : Part → Property} → ((s : Part) → Same (P s) (Q s)) → (t : ℕ) → (Always (P Require) t × P Assume t) ↔ (Always (Q Require) t × Q Assume t)
due h t = Equiv.and (always_same (h Require) t) (h Assume t)

module _ (lem : Lem {0}) where
  one_plain : (x : List ℕ) (vs : List Token) (w : Word) → Same (OnePlain x vs w) (MatchesOne x vs w)
  one_plain x [] w p = Equiv.rfl
  one_plain x (v ∷ vs) w p = or-plain lem Equiv.rfl (one_plain x vs w p)

  sides_plain : (o : Comparison) (v : Value) (r : Result Value) (w : Word) → Same (SidesPlain o v r w) (SidesMean o v r w)
  sides_plain o (Number a) r w p = Equiv.rfl
  sides_plain o (Set s) r w p = Equiv.rfl
  sides_plain o Logic r w p = Equiv.rfl
  sides_plain o (Bus q x n) r w p = equals_same o (one_plain x (the_words r) w p)
  sides_plain o (Unsized q) r w p = Equiv.rfl
  sides_plain o (Choice v) r w p = equals_same o (one_plain (the_bus r) v w p)

  each-plain : (o : Big) (m : List ℕ) {P Q : ℕ → Type 0} → ((k : ℕ) → P k ↔ Q k) → EachPlain o m P ↔ EachMeans o m Q
  each-plain BigSum m h = Equiv.rfl
  each-plain BigProduct m h = Equiv.rfl
  each-plain BigCap m h = Equiv.rfl
  each-plain BigCup m h = Equiv.rfl
  each-plain BigAnd m h = all_same (λ k. to_same Equiv.rfl (h k))
  each-plain BigOr m h = Equiv.trans (some_plain lem) (some_same (λ k. Equiv.and Equiv.rfl (h k)))

  window-plain : (o : Window) (n m : ℕ) {P Q : Property} → Same P Q → Same (WindowPlain o n m P) (WindowMeans o n m Q)
  window-plain FinallyIn n m h t =
      Equiv.trans (some_plain lem) (some_same (λ j. (λ c. (c.0, c.1, (h (t + j)).0 c.2), λ c. (c.0, c.1, (h (t + j)).1 c.2))))
  window-plain GloballyIn n m h t = all_same (λ j. to_same Equiv.rfl (to_same Equiv.rfl (h (t + j))))

  -- names that mean the same, plainly and here
  module _ (m m' : Names) (h : (t : Token) (w : Word) → Same (m' t w) (m t w)) (s : (t : Token) (w : Word) → StableAll (m t w)) where
    means-plain : (sc : Scope) (e : Expr) (w : Word) → Same (MeansPlain (sense sc m') e w) (Means (sense sc m) e w)
    means-plain sc (Named t) w p = h t w p
    means-plain sc (Numeral t) w p = Equiv.rfl
    means-plain sc (Truth t b) w p = Equiv.rfl
    means-plain sc (Index t e) w p = Equiv.rfl
    means-plain sc (Paren t e) w p = means-plain sc e w p
    means-plain sc (Prefixed t (Measures q) e) w p = Equiv.rfl
    means-plain sc (Prefixed t WidthOf e) w p = Equiv.rfl
    means-plain sc (Prefixed t (Applies o) e) w p = unary-plain lem o (means_stable sc m s e w) (means-plain sc e w) p
    means-plain sc (Joined t (Calculates o) a b) w p = Equiv.rfl
    means-plain sc (Joined t (Combines o) a b) w p = Equiv.rfl
    means-plain sc (Joined t (Compares o) a b) w p = sides_plain o (or_else Logic (value sc a)) (value sc b) w p
    means-plain sc (Joined t Membership a b) w p = Equiv.rfl
    means-plain sc (Joined t (Connects o) a b) w p =
        binary-plain lem o (means_stable sc m s a w) (means_stable sc m s b w) (means-plain sc a w) (means-plain sc b w) p
    means-plain sc (Nexts t n e) w p = means-plain sc e w (p + the_number (value sc n))
    means-plain sc (InWindow t o n k e) w p = window-plain o (the_number (value sc n)) (the_number (value sc k)) (means-plain sc e w) p
    means-plain sc (Each t o further i u e) w p = each-plain o (the_set (value sc u)) (λ k. means-plain (naming i (Done (Number k)) sc) e w p)
    means-plain sc (Between t l u a b) w p = Equiv.rfl
    means-plain sc (Listed t es) w p = Equiv.rfl
    means-plain sc Empty w p = Equiv.rfl
    means-plain sc (Element e es) w p = Equiv.rfl
    means-plain sc (Range t x y z) w p = Equiv.rfl

    lines-plain : (sc : Scope) (es : List Expr) (w : Word) → Same (LinesPlain (sense sc m') es w) (LinesMean (sense sc m) es w)
    lines-plain sc [] w p = Equiv.rfl
    lines-plain sc (e ∷ es) w p = Equiv.and (means-plain sc e w p) (lines-plain sc es w p)

  -- implied lines
  identifier-plain : (x : List ℕ) (is : List Identifier) (w : Word) → Same (IdentifierPlain x is w) (MatchesIdentifier x is w)
  identifier-plain x [] w p = Equiv.rfl
  identifier-plain x (i ∷ is) w p = or-plain lem (one_plain x i.words w p) (identifier-plain x is w p)

  implied-plain : (ds : List Definition) (u x : Token) (w : Word) → Same (ImpliedPlain ds u x w) (ImpliedMeans ds u x w)
  implied-plain [] u x w p = Equiv.rfl
  implied-plain (Defined y e ∷ ds) u x w p = implied-plain ds u x w p
  implied-plain (Enumerated y is ∷ ds) u x w p =
      choice-same (same y.text u.text) (identifier-plain x.text is w) (implied-plain ds u x w) p

  declarations-plain : (defs : List Definition) (ds : List Declaration) (w : Word) → Same (DeclarationsPlain defs ds w) (DeclarationsMean defs ds w)
  declarations-plain defs [] w p = Equiv.rfl
  declarations-plain defs (OneSignal x ∷ ds) w p = declarations-plain defs ds w p
  declarations-plain defs (OfWidth x e ∷ ds) w p = declarations-plain defs ds w p
  declarations-plain defs (OfType u x ∷ ds) w p = Equiv.and (implied-plain defs u x w p) (declarations-plain defs ds w p)

  -- sections, in the sense that the definitions give
  section-plain : (m m' : Names) → ((t : Token) (w : Word) → Same (m' t w) (m t w)) → ((t : Token) (w : Word) → StableAll (m t w)) → (sc : Scope) →
      (defs : List Definition) (ss : List Subsection) (q : Part) (w : Word) → Same (SectionPlain (sense sc m') defs ss q w) (SectionMeans (sense sc m) defs ss q w)
  section-plain m m' h s sc defs [] q w p = Equiv.rfl
  section-plain m m' h s sc defs (Inputs ds ∷ ss) q w p = Equiv.and (to_same Equiv.rfl (declarations-plain defs ds w p)) (section-plain m m' h s sc defs ss q w p)
  section-plain m m' h s sc defs (Outputs ds ∷ ss) q w p = Equiv.and (to_same Equiv.rfl (declarations-plain defs ds w p)) (section-plain m m' h s sc defs ss q w p)
  section-plain m m' h s sc defs (Lines r es ∷ ss) q w p = Equiv.and (to_same Equiv.rfl (lines-plain m m' h s sc es w p)) (section-plain m m' h s sc defs ss q w p)

  defined_plain : (m m' : Names) → ((t : Token) (w : Word) → Same (m' t w) (m t w)) → ((t : Token) (w : Word) → StableAll (m t w)) → (sc : Scope) →
      (ds defs : List Definition) (ss : List Subsection) (q : Part) (w : Word) →
      Same (SectionPlain (meaning_all_plain (sense sc m') ds) defs ss q w) (SectionMeans (meaning_all (sense sc m) ds) defs ss q w)
  defined_plain m m' h s sc [] defs ss q w p = section-plain m m' h s sc defs ss q w p
  defined_plain m m' h s sc (Defined x e ∷ ds) defs ss q w p =
      defined_plain (meaning (sense sc m) x e).means (meaning_plain (sense sc m') x e).means
      (λ t v. choice-same (same x.text t.text) (means-plain m m' h s sc e v) (h t v))
      (λ t v. choice-stable (same x.text t.text) (means_stable sc m s e v) (s t v))
      (naming x (value sc e) sc) ds defs ss q w p
  defined_plain m m' h s sc (Enumerated x is ∷ ds) defs ss q w p = defined_plain m m' h s sc ds defs ss q w p

  whole_plain : (strict : Bool) {P Q : Part → Property} → ((s : Part) → Same (P s) (Q s)) → Same (WholePlain strict P) (WholeMeans strict Q)
  whole_plain false h t = or-plain lem (Equiv.not (h Initially t)) (Equiv.and (h Preset t) (to_same (due h t) (Equiv.and (always_same (h Assert) t) (h Guarantee t))))
  whole_plain true h t =
      or-plain lem (Equiv.not (h Initially t)) (three (h Preset t) (owed_same (h Assert) (h Require) t) (to_same (due h t) (h Guarantee t)))

  spec_plain : (x : Spec) (w : Word) → Same (OfSpecPlain (Done x) w) (OfSpec (Done x) w)
  spec_plain x w =
      whole_plain x.strict (λ q. defined_plain (λ t. Holding (SignalOf t.text)) (λ t. Holding (SignalOf t.text))
      (λ t v p. Equiv.rfl) (λ t v p. stable_so _) (names_of x) x.definitions x.definitions x.main q (read_as x.semantics x.target x.main w))

  pub adequate-text : (text : List ℕ) (w : Word) → Same (TextPlain text w) (TextMeans text w)
  adequate-text text w = go (parsed text)
    where
      go : (r : Result Spec) → Same (OfSpecPlain r w) (OfSpec r w)
      go (Done x) = spec_plain x w
      go (Refused n p) = λ t. Equiv.rfl
