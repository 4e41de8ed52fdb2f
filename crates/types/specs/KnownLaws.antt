-- The names of a text whose names are resolved are known: whatever is visible at a line, the table has its type.
use Rattle.std.specs.Prelude.{ℕ, ◌+◌, List, [], ◌∷◌, ◌++◌, Bool, true, false, ◌||◌, ◌≡◌, refl, ltb, length}
use Rattle.std.proofs.lemmas.Bool.{false≢true}
use Rattle.std.proofs.Math.Option.{none}
use Rattle.std.proofs.Common.{sym, ap, ◌∙◌, arith, le-ltb}
use Rattle.language.specs.Bytes.{same}
use Rattle.language.specs.Limits.{max_names}
use Rattle.language.specs.Tokens.{Token}
use Rattle.language.specs.Tree.{
  Expr,
  Named,
  Numeral,
  Truth,
  Index,
  Paren,
  Prefixed,
  Joined,
  Nexts,
  InWindow,
  Each,
  Between,
  Listed,
  Empty,
  Element,
  Range,
  Identifier,
  Defined,
  Enumerated,
  OneSignal,
  OfWidth,
  OfType,
}
use Rattle.language.specs.Places.{first, TextLine as Line, ParameterLine, DefinitionLine, DeclarationLine, FormulaLine}
use Rattle.language.specs.Names.{Names, visible, hidden, nowhere, walk, identifier_names, declares, declares_signal, over}
use Rattle.language.specs.Types.{ExprType, AFormula, ABus, AValue, type_code, Typings, with_number, typed_values, typed_signals, ANumber}
use Rattle.language.proofs.Laws.Basics.Lists.{All, all_more, all_right, all_append, all_both}
use Rattle.language.proofs.Laws.Basics.NoPlace.{first-left, first-right, unless_none}
use Rattle.language.proofs.Laws.Basics.Tests.{pick, leave, or_cases, same_equal}
use Rattle.language.proofs.Laws.Values.DistinctNames.{Apart, apart_sym, Distinct, distinct_right, Across, across}
use Rattle.names.specs.References.{reference}
use Rattle.names.proofs.WalkBinders.{reference-same, reference_other, reference-text}
use Rattle.names.proofs.VisibleLaws.{In, visible-text, of_signals}
use Rattle.types.specs.Kinds.{type_at}
use Rattle.types.specs.Known.{KnownName, Known}
use Rattle.types.specs.TableLaws.{all_fixed}
use Rattle.types.specs.PutLaws.{Has}

-- the names that lines define by an expression
abbrev pub defines : Line → Names
defines (ParameterLine x e) = []
defines (DefinitionLine (Defined x e)) = x ∷ []
defines (DefinitionLine (Enumerated x is)) = []
defines (DeclarationLine d) = []
defines (FormulaLine e) = []

pub of_defined : (P : Token → Type 0) (ls : List Line) → All P (over declares ls) → All P (over defines ls)
of_defined P [] h = tt
of_defined P (ParameterLine x e ∷ ls) h = of_defined P ls h.1
of_defined P (DefinitionLine (Defined x e) ∷ ls) h = (h.0, of_defined P ls h.1)
of_defined P (DefinitionLine (Enumerated x is) ∷ ls) h = of_defined P ls (all_right P (x ∷ identifier_names is) (over declares ls) h)
of_defined P (DeclarationLine d ∷ ls) h = of_defined P ls (all_right P (declares (DeclarationLine d)) (over declares ls) h)
of_defined P (FormulaLine e ∷ ls) h = of_defined P ls h

-- no signal is defined
pub signals_apart : (ls : List Line) → Distinct (over declares ls) → Across (over declares_signal ls) (over defines ls)
signals_apart [] h = tt
signals_apart (ParameterLine x e ∷ ls) h = signals_apart ls h.1
signals_apart (DefinitionLine (Defined x e) ∷ ls) h =
    all_both (λ n a b. (a, b)) (over declares_signal ls) (of_signals (λ n. Apart n x) ls (all_more (λ n a. apart_sym x n a) (over declares ls) h.0)) (signals_apart ls h.1)
signals_apart (DefinitionLine (Enumerated x is) ∷ ls) h = signals_apart ls (distinct_right (x ∷ identifier_names is) (over declares ls) h)
signals_apart (DeclarationLine d ∷ ls) h =
    let own = declares (DeclarationLine d) in
    all_append (λ n. All (Apart n) (over defines ls)) own (over declares_signal ls) (all_more (λ n a. of_defined (Apart n) ls a) own (across own (over declares ls) h))
    (signals_apart ls (distinct_right own (over declares ls) h))
signals_apart (FormulaLine e ∷ ls) h = signals_apart ls h

-- the table has the type of every visible name
module _ (declared : Names) (table : List ℕ) where
  abbrev pub Fits : Names → Names → Typings → Type 0
  Fits bs ns ys = (t : Token) → visible ns t ≡ true → KnownName declared bs table ys t

  -- a big operator's name is a number
  type_bound : (r d : ℕ) → r ≡ max_names + d → type_at table r ≡ type_code ANumber
  unfolding type_at
  type_bound r d e = leave (ltb r max_names) _ _ (le-ltb r max_names (omega arith))

  fits_bound : (bs ns : Names) (ys : Typings) (i : Token) → Fits bs ns ys → Fits (i ∷ bs) (i ∷ ns) (with_number i ys)
  fits_bound bs ns ys i f t y = go (same i.text t.text) refl y
    where
      go : (b : Bool) → same i.text t.text ≡ b → (b || visible ns t) ≡ true → KnownName declared (i ∷ bs) table (with_number i ys) t
      go true e v = type_bound (reference declared (i ∷ bs) t) (length bs) (reference-same declared i bs t e) ∙ sym (ap type_code (pick (same i.text t.text) _ _ e))
      go false e v = ap (type_at table) (reference_other declared i bs t e) ∙ f t v ∙ sym (ap type_code (leave (same i.text t.text) _ _ e))

  pub known : (bs ns : Names) (ys : Typings) → Fits bs ns ys → (e : Expr) → walk hidden nowhere ns e ≡ none → Known declared bs table ys e
  known bs ns ys f (Named t) y = f t (unless_none (visible ns t) t.at y)
  known bs ns ys f (Numeral t) y = tt
  known bs ns ys f (Truth t b) y = tt
  known bs ns ys f (Index t e) y = (f t (unless_none (visible ns t) t.at (first-left (hidden ns t) (walk hidden nowhere ns e) y)), known bs ns ys f e (first-right (hidden ns t) _ y))
  known bs ns ys f (Paren t e) y = known bs ns ys f e y
  known bs ns ys f (Prefixed t o e) y = known bs ns ys f e y
  known bs ns ys f (Joined t o a b) y = (known bs ns ys f a (first-left _ (walk hidden nowhere ns b) y), known bs ns ys f b (first-right (walk hidden nowhere ns a) _ y))
  known bs ns ys f (Nexts t n e) y = (known bs ns ys f n (first-left _ (walk hidden nowhere ns e) y), known bs ns ys f e (first-right (walk hidden nowhere ns n) _ y))
  known bs ns ys f (InWindow t o n m e) y =
      let z = first-right (walk hidden nowhere ns n) (first (walk hidden nowhere ns m) (walk hidden nowhere ns e)) y in (
        known bs ns ys f n (first-left _ (first (walk hidden nowhere ns m) (walk hidden nowhere ns e)) y),
        known bs ns ys f m (first-left _ (walk hidden nowhere ns e) z),
        known bs ns ys f e
            (first-right (walk hidden nowhere ns m) _ z),
      )
  known bs ns ys f (Each t o further i s e) y =
      (known bs ns ys f s (first-left _ (walk hidden nowhere (i ∷ ns) e) y), known (i ∷ bs) (i ∷ ns) (with_number i ys) (fits_bound bs ns ys i f) e (first-right (walk hidden nowhere ns s) _ y))
  known bs ns ys f (Between t l h a b) y = (known bs ns ys f a (first-left _ (walk hidden nowhere ns b) y), known bs ns ys f b (first-right (walk hidden nowhere ns a) _ y))
  known bs ns ys f (Listed t es) y = known bs ns ys f es y
  known bs ns ys f Empty y = tt
  known bs ns ys f (Element e es) y = (known bs ns ys f e (first-left _ (walk hidden nowhere ns es) y), known bs ns ys f es (first-right (walk hidden nowhere ns e) _ y))
  known bs ns ys f (Range t a b c) y =
      let z = first-right (walk hidden nowhere ns a) (first (walk hidden nowhere ns b) (walk hidden nowhere ns c)) y in (
        known bs ns ys f a (first-left _ (first (walk hidden nowhere ns b) (walk hidden nowhere ns c)) y),
        known bs ns ys f b (first-left _ (walk hidden nowhere ns c) z),
        known bs ns ys f c
            (first-right (walk hidden nowhere ns b) _ z),
      )

  -- one more declared name
  pub fits_one : (ns : Names) (ys : Typings) (x : Token) (k : ExprType) → Has declared table (record { name = x; type = k }) → Fits [] ns ys → Fits [] (x ∷ ns) (record { name = x; type = k } ∷ ys)
  fits_one ns ys x k h f t y = go (same x.text t.text) refl y
    where
      go : (b : Bool) → same x.text t.text ≡ b → (b || visible ns t) ≡ true → KnownName declared [] table (record { name = x; type = k } ∷ ys) t
      go true e v = ap (type_at table) (reference-text declared [] t x (sym (same_equal x.text t.text e))) ∙ h ∙ sym (ap type_code (pick (same x.text t.text) _ _ e))
      go false e v = f t v ∙ sym (ap type_code (leave (same x.text t.text) _ _ e))

  pub fits_values : (is : List Identifier) (ns : Names) (ys zs : Typings) → All (Has declared table) (typed_values is zs) → Fits [] ns ys → Fits [] (identifier_names is ++ ns) (typed_values is ys)
  fits_values [] ns ys zs h f = f
  fits_values (i ∷ is) ns ys zs h f = fits_one (identifier_names is ++ ns) (typed_values is ys) i.name AValue h.0 (fits_values is ns ys zs h.1 f)

  pub behind_values : (is : List Identifier) (zs : Typings) → All (Has declared table) (typed_values is zs) → All (Has declared table) zs
  behind_values [] zs h = h
  behind_values (i ∷ is) zs h = behind_values is zs h.1

  -- 'signals and buses everywhere'
  pub fits-signals : (ls : List Line) → All (Has declared table) (all_fixed ls) → Fits [] (over declares_signal ls) (typed_signals ls)
  fits-signals [] h = λ t y. absurd (false≢true y)
  fits-signals (ParameterLine x e ∷ ls) h = fits-signals ls h.1
  fits-signals (DefinitionLine (Defined x e) ∷ ls) h = fits-signals ls h
  fits-signals (DefinitionLine (Enumerated x is) ∷ ls) h = fits-signals ls (behind_values is (all_fixed ls) h.1)
  fits-signals (DeclarationLine (OneSignal x) ∷ ls) h = fits_one (over declares_signal ls) (typed_signals ls) x AFormula h.0 (fits-signals ls h.1)
  fits-signals (DeclarationLine (OfWidth x e) ∷ ls) h = fits_one (over declares_signal ls) (typed_signals ls) x ABus h.0 (fits-signals ls h.1)
  fits-signals (DeclarationLine (OfType u x) ∷ ls) h = fits_one (over declares_signal ls) (typed_signals ls) x ABus h.0 (fits-signals ls h.1)
  fits-signals (FormulaLine e ∷ ls) h = fits-signals ls h

  -- a signal's own line makes nothing visible that was not
  pub fits-again : (ns : Names) (ys : Typings) (x : Token) → In ns x → Fits [] ns ys → Fits [] (x ∷ ns) ys
  fits-again ns ys x i f t y = or_cases (same x.text t.text) (visible ns t) (λ e. f t (sym (visible-text ns x t (same_equal x.text t.text e)) ∙ i)) (f t) y
