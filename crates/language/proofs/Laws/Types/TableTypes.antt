-- The table of declared names against their types: every visible name is found, as what it is declared to be.
use Rattle.std.specs.Prelude.{ℕ, zero, suc, ◌≤◌, ◌≡◌, refl, Bool, true, false, not, ◌||◌, List, [], ◌∷◌}
use Rattle.std.proofs.Common.{sym, ◌∙◌, subst, arith}
use Rattle.std.proofs.lemmas.Bool.{false≢true}
use Rattle.node.specs.Result.{Result, Done, ◌>>=◌}
use Rattle.language.specs.Bytes.{same}
use Rattle.language.specs.Tokens.{Token}
use Rattle.language.specs.Tree.{Declaration}
use Rattle.language.specs.Types.{ExprType, ANumber, ASet, AFormula, ABus, AValue, AType, Unknown, is_type, Typing, Typings, type_in}
use Rattle.language.specs.Values.{Value}
use Rattle.language.specs.DeclaredNames.{Declared, Constant, Single, BusOf, Identifies, WaitingBus, Table, find, value_at, declared, Port, as_declared}
use Rattle.language.specs.Expansion.{signal_of}
use Rattle.language.proofs.Laws.Basics.Lists.{All, Any}
use Rattle.language.proofs.Laws.Basics.Tests.{or_right}
use Rattle.language.proofs.Laws.Basics.Results.{done, bind}
use Rattle.language.proofs.Laws.Values.ValueTypes.{value_type, apart}
use Rattle.language.specs.Listed.{declared_name}
use Rattle.language.proofs.Laws.Types.Reaching.{Reaches}
use Rattle.language.proofs.Laws.Types.TypeLaws.{Evaluates, reaches_evaluates}
use Rattle.language.proofs.Laws.Types.TypeSoundness.{Agree}
use Rattle.language.proofs.Laws.Types.ExpansionTypes.{Expands}
use Rattle.language.proofs.Laws.Types.KnownTypes.{Knows}
use Rattle.language.proofs.Laws.Types.DefinitionTypes.{found, Covers}

abbrev pub declared_type : Declared → ExprType
declared_type (Constant n) = ANumber
declared_type Single = AFormula
declared_type (BusOf n) = ABus
declared_type (Identifies v) = AValue
declared_type WaitingBus = ABus

value_at_type : (t : Token) (d : Declared) → value_type (value_at t d) ≡ declared_type d
value_at_type t (Constant n) = refl
value_at_type t Single = refl
value_at_type t (BusOf n) = refl
value_at_type t (Identifies v) = refl
value_at_type t WaitingBus = refl

-- a bus at its turn has a width
pub bus_type : (n : ℕ) → 1 ≤ n → declared_type (as_declared n) ≡ ABus
bus_type zero h = absurd (omega arith)
bus_type (suc n) h = refl

-- is it the name of one of some declarations?
abbrev pub listed : List Declaration → List ℕ → Bool
listed [] x = false
listed (d ∷ ds) x = same (declared_name d).text x || listed ds x

-- is the type that of a visible name?
abbrev pub seen : ExprType → Bool
seen k = not (is_type Unknown k)

abbrev pub EntryKnown : (Token → ExprType) → List ℕ × Declared → Type 0
EntryKnown g e = (t : Token) → same e.0 t.text ≡ true → g t ≡ declared_type e.1

abbrev pub Respects : (Token → ExprType) → Typings → Type 0
Respects g ys = (t : Token) → seen (type_in ys t) ≡ true → g t ≡ type_in ys t

-- g the declared types, I names that must stay in the table
pub record Standing (g : Token → ExprType) (I : Table) (ys : Typings) (d : Table) : Type 0 where
  pub sound : All (EntryKnown g) d
  pub respects : Respects g ys
  pub present : (t : Token) → seen (type_in ys t) ≡ true → found d t.text ≡ true
  pub kept : (t : Token) → found I t.text ≡ true → found d t.text ≡ true

-- one more entry
respects_entry : (b : Bool) (k l m : ExprType) → (b ≡ true → m ≡ k) → (seen l ≡ true → m ≡ l) → seen (elim b [ true ↦ k | false ↦ l ]) ≡ true
    → m ≡ elim b [ true ↦ k | false ↦ l ]
respects_entry true k l m h i e = h refl
respects_entry false k l m h i e = i e

pub respects_add : (g : Token → ExprType) (ys : Typings) (y : Typing) → Knows g y → Respects g ys → Respects g (y ∷ ys)
respects_add g ys y k r t = respects_entry (same y.name.text t.text) y.type (type_in ys t) (g t) (k t) (r t)

present-entry : (b : Bool) (k l : ExprType) (f : Bool) → (seen l ≡ true → f ≡ true) → seen (elim b [ true ↦ k | false ↦ l ]) ≡ true → (b || f) ≡ true
present-entry true k l f h e = refl
present-entry false k l f h e = h e

module _ (g : Token → ExprType) (I : Table) (ys : Typings) (d : Table) where
  -- a parameter, with its type
  pub standing_typed : (x : Token) (v : Declared) → Knows g (record { name = x; type = declared_type v }) → Standing g I ys d
      → Standing g I (record { name = x; type = declared_type v } ∷ ys) ((x.text, v) ∷ d)
  standing_typed x v k s =
      record {
        sound = (k, s.sound);
        respects = respects_add g ys (record { name = x; type = declared_type v }) k s.respects;
        present = λ t. present-entry (same x.text t.text) (declared_type v) (type_in ys t) (found d t.text) (s.present t);
        kept = λ t e. or_right (same x.text t.text) (found d t.text) (s.kept t e);
      }

  -- a signal or a bus at its turn
  pub standing_turn : (x : Token) (v : Declared) → Knows g (record { name = x; type = declared_type v }) → Standing g I ys d → Standing g I ys ((x.text, v) ∷ d)
  standing_turn x v k s =
      record {
        sound = (k, s.sound);
        respects = s.respects;
        present = λ t e. or_right (same x.text t.text) (found d t.text) (s.present t e);
        kept = λ t e. or_right (same x.text t.text) (found d t.text) (s.kept t e);
      }

-- what is found is of its type
finds-entry : (b : Bool) (l : ExprType) (w : Declared) (f : Bool) (r : Result Declared) → (b ≡ true → l ≡ declared_type w)
    → (f ≡ true → Reaches (λ v. l ≡ declared_type v) r) → (b || f) ≡ true → Reaches {A = Declared} (λ v. l ≡ declared_type v) (elim b [ true ↦ Done w | false ↦ r ])
finds-entry true l w f r h i e = done (h refl)
finds-entry false l w f r h i e = i e

find_reaches : (g : Token → ExprType) (d : Table) → All (EntryKnown g) d → (t : Token) → found d t.text ≡ true → Reaches (λ v. g t ≡ declared_type v) (find d t.text)
find_reaches g [] s t f = absurd (false≢true f)
find_reaches g (e ∷ d) s t f =
    finds-entry (same e.0 t.text) (g t) e.1 (found d t.text) (find d t.text) (s.0 t) (find_reaches g d s.1 t) f

pub covers_table : (g : Token → ExprType) (d : Table) → All (EntryKnown g) d → Covers g (λ t. found d t.text) (declared d)
covers_table g d s t f =
    reaches_evaluates (g t) _ (bind (find d t.text) _ (find_reaches g d s t f)
    (λ v h. done (value_at_type t v ∙ sym h)))

evaluates_seen : (k : ExprType) (r : Result Value) → (seen k ≡ true → Evaluates k r) → Evaluates k r
evaluates_seen ANumber r h = h refl
evaluates_seen ASet r h = h refl
evaluates_seen AFormula r h = h refl
evaluates_seen ABus r h = h refl
evaluates_seen AValue r h = h refl
evaluates_seen AType r h = tt
evaluates_seen Unknown r h = tt

module _ (g : Token → ExprType) (I : Table) (ys : Typings) (d : Table) where
  pub standing_agree : Standing g I ys d → Agree ys (declared d)
  standing_agree s t =
      evaluates_seen (type_in ys t) (declared d t)
      (λ e. subst (λ (k : ExprType). Evaluates k (declared d t)) (s.respects t e) (covers_table g d s.sound t (s.present t e)))

signal_reaches : (ps : List Port) (t : Token) (v : Declared) → AFormula ≡ declared_type v → Reaches Any (signal_of ps t v)
signal_reaches ps t (Constant n) e = apart AFormula ANumber refl e
signal_reaches ps t Single e = done tt
signal_reaches ps t (BusOf n) e = apart AFormula ABus refl e
signal_reaches ps t (Identifies v) e = apart AFormula AValue refl e
signal_reaches ps t WaitingBus e = apart AFormula ABus refl e

-- a declared name that is a formula is a signal
pub standing_expands : (ps : List Port) (g : Token → ExprType) (I : Table) (ys : Typings) (d : Table) → Standing g I ys d → Expands ys (λ t. find d t.text >>= signal_of ps t)
standing_expands ps g I ys d s t e =
    let n : seen (type_in ys t) ≡ true = subst (λ (k : ExprType). seen k ≡ true) (sym e) refl in
    bind (find d t.text) (signal_of ps t) (find_reaches g d s.sound t (s.present t n)) (λ v h. signal_reaches ps t v (sym (s.respects t n ∙ e) ∙ h))
