-- Types of declared names in a table, by the names' references.
use Rattle.std.specs.Prelude.{ℕ, ◌≤◌, ◌<◌, List, [], ◌∷◌, ◌++◌, ◌≡◌, refl, ltb, length, set}
use Rattle.std.proofs.lemmas.Bool.{false≢true}
use Rattle.std.proofs.Common.{sym, ap, ◌∙◌, length-set, get_or-set_same, get_or-set_other, arith, lt-ltb}
use Rattle.language.specs.Bytes.{if◌then◌otherwise◌, same}
use Rattle.language.specs.Limits.{max_names}
use Rattle.language.specs.Tokens.{Token}
use Rattle.language.specs.Tree.{Identifier, Defined, Enumerated, OneSignal, OfWidth, OfType}
use Rattle.language.specs.Places.{TextLine as Line, ParameterLine, DefinitionLine, DeclarationLine, FormulaLine}
use Rattle.language.specs.Names.{Names, identifier_names, declares, over}
use Rattle.language.specs.Types.{ExprType, ANumber, AFormula, ABus, type_code, Typing, Typings, typed_values}
use Rattle.language.proofs.Laws.Basics.Lists.{All, all_right, all_both}
use Rattle.language.proofs.Laws.Basics.Tests.{pick, same_refl}
use Rattle.language.proofs.Laws.Values.DistinctNames.{Apart, apart_sym, Distinct, distinct_right}
use Rattle.names.specs.References.{reference}
use Rattle.names.proofs.WalkBinders.{reference-outside}
use Rattle.names.proofs.ResolvedLaws.{number-below, number_apart}
use Rattle.names.proofs.VisibleLaws.{In}
use Rattle.types.specs.Kinds.{type_at}
use Rattle.types.specs.TableLaws.{all_fixed, put}

-- the table has the name's type
abbrev pub Has : Names → List ℕ → Typing → Type 0
Has declared table y = type_at table (reference declared [] y.name) ≡ type_code y.type

pub type_other : (table : List ℕ) (r v q : ℕ) → (q ≡ r → ⊥) → type_at (set table r v) q ≡ type_at table q
unfolding type_at
type_other table r v q n = ap (λ d. if ltb q max_names then d otherwise type_code ANumber) (get_or-set_other table r q v 0 n)

type_same : (table : List ℕ) (r v : ℕ) → r < max_names → length table ≡ max_names → type_at (set table r v) r ≡ v
unfolding type_at
type_same table r v l n = pick (ltb r max_names) _ _ (lt-ltb r max_names l) ∙ get_or-set_same table r v 0 (omega arith)

pub put-length : (declared : Names) (ys : Typings) (table : List ℕ) → length (put declared table ys) ≡ length table
put-length declared [] table = refl
put-length declared (y ∷ ys) table = put-length declared ys (set table (reference declared [] y.name) (type_code y.type)) ∙ length-set table (reference declared [] y.name) (type_code y.type)

module _ (declared : Names) where
  -- another declared name than x
  abbrev pub Beside : Token → Token → Type 0
  Beside x n = In declared n × Apart n x

  pub others : (x : Token) (ns : Names) → All (Apart x) ns → All (In declared) ns → All (Beside x) ns
  others x ns d i = all_both (λ n j a. (j, apart_sym x n a)) ns i d

  -- its reference is another
  pub apart_references : (a b : Token) → In declared a → In declared b → Apart a b → reference declared [] a ≡ reference declared [] b → ⊥
  apart_references a b i j d e =
      false≢true (sym d ∙ ap (same a.text) (sym (number_apart declared a b i j (sym (reference-outside declared a) ∙ e ∙ reference-outside declared b))) ∙ same_refl a.text)

  -- so that its type is kept
  pub has_kept : (table : List ℕ) (x : Token) (v : ℕ) (y : Typing) → In declared x → Beside x y.name → Has declared table y → Has declared (set table (reference declared [] x) v) y
  has_kept table x v y i j h = type_other table (reference declared [] x) v (reference declared [] y.name) (apart_references y.name x j.0 i j.1) ∙ h

  has_put : (ys : Typings) (table : List ℕ) (y : Typing) → In declared y.name → All (λ (z : Typing). Beside y.name z.name) ys → Has declared table y → Has declared (put declared table ys) y
  has_put [] table y i a h = h
  has_put (z ∷ ys) table y i a h =
      has_put ys (set table (reference declared [] z.name) (type_code z.type)) y i a.1
      (has_kept table z.name (type_code z.type) y a.0.0 (i, apart_sym z.name y.name a.0.1) h)

  -- each name is another than those behind it
  abbrev Spread : Typings → Type 0
  Spread [] = Unit {0}
  Spread (y ∷ ys) = In declared y.name × All (λ (z : Typing). Beside y.name z.name) ys × Spread ys

-- what holds of the names that lines declare holds of those with a fixed type
values_names : (P : Token → Type 0) (is : List Identifier) (ns : Names) (ys : Typings) → (All P ns → All (λ (y : Typing). P y.name) ys) → All P (identifier_names is ++ ns)
    → All (λ (y : Typing). P y.name) (typed_values is ys)
values_names P [] ns ys g h = g h
values_names P (i ∷ is) ns ys g h = (h.0, values_names P is ns ys g h.1)

pub fixed-names : (P : Token → Type 0) (ls : List Line) → All P (over declares ls) → All (λ (y : Typing). P y.name) (all_fixed ls)
fixed-names P [] h = tt
fixed-names P (ParameterLine x e ∷ ls) h = (h.0, fixed-names P ls h.1)
fixed-names P (DefinitionLine (Defined x e) ∷ ls) h = fixed-names P ls h.1
fixed-names P (DefinitionLine (Enumerated x is) ∷ ls) h = (h.0, values_names P is (over declares ls) (all_fixed ls) (fixed-names P ls) h.1)
fixed-names P (DeclarationLine (OneSignal x) ∷ ls) h = (h.0, fixed-names P ls h.1)
fixed-names P (DeclarationLine (OfWidth x e) ∷ ls) h = (h.0, fixed-names P ls h.1)
fixed-names P (DeclarationLine (OfType u x) ∷ ls) h = (h.0, fixed-names P ls h.1)
fixed-names P (FormulaLine e ∷ ls) h = fixed-names P ls h

module _ (declared : Names) where
  spread_values : (is : List Identifier) (ls : List Line) → Distinct (identifier_names is ++ over declares ls) → All (In declared) (identifier_names is ++ over declares ls)
      → Spread declared (all_fixed ls) → Spread declared (typed_values is (all_fixed ls))
  spread_values [] ls d i s = s
  spread_values (v ∷ is) ls d i s = (
    i.0,
    values_names (Beside declared v.name) is (over declares ls) (all_fixed ls) (fixed-names (Beside declared v.name) ls)
        (others declared v.name (identifier_names is ++ over declares ls) d.0 i.1),
    spread_values is ls d.1 i.1 s,
  )

  spread-one : (x : Token) (k : ExprType) (ls : List Line) → Distinct (x ∷ over declares ls) → All (In declared) (x ∷ over declares ls) → Spread declared (all_fixed ls)
      → Spread declared (record { name = x; type = k } ∷ all_fixed ls)
  spread-one x k ls d i s = (i.0, fixed-names (Beside declared x) ls (others declared x (over declares ls) d.0 i.1), s)

  spread : (ls : List Line) → Distinct (over declares ls) → All (In declared) (over declares ls) → Spread declared (all_fixed ls)
  spread [] d i = tt
  spread (ParameterLine x e ∷ ls) d i = spread-one x ANumber ls d i (spread ls d.1 i.1)
  spread (DefinitionLine (Defined x e) ∷ ls) d i = spread ls d.1 i.1
  spread (DefinitionLine (Enumerated x is) ∷ ls) d i =
      let ns = identifier_names is in
      let s = spread ls (distinct_right ns (over declares ls) d.1) (all_right (In declared) ns (over declares ls) i.1) in (
        i.0,
        values_names (Beside declared x) is (over declares ls) (all_fixed ls) (fixed-names (Beside declared x) ls) (others declared x (ns ++ over declares ls) d.0 i.1),
        spread_values is ls
            d.1 i.1 s,
      )
  spread (DeclarationLine (OneSignal x) ∷ ls) d i = spread-one x AFormula ls d i (spread ls d.1 i.1)
  spread (DeclarationLine (OfWidth x e) ∷ ls) d i = spread-one x ABus ls d i (spread ls d.1 i.1)
  spread (DeclarationLine (OfType u x) ∷ ls) d i = spread-one x ABus ls d i (spread ls d.1 i.1)
  spread (FormulaLine e ∷ ls) d i = spread ls d i

module _ (declared : Names) (few : length declared ≤ max_names) where
  -- a declared name has room in the table
  pub has_set : (table : List ℕ) (x : Token) (k : ExprType) → In declared x → length table ≡ max_names → Has declared (set table (reference declared [] x) (type_code k)) (record { name = x; type = k })
  has_set table x k i l =
      let b = number-below declared x i in
      let e = reference-outside declared x in
      type_same table (reference declared [] x) (type_code k) (omega arith) l

  put_has : (ys : Typings) (table : List ℕ) → length table ≡ max_names → Spread declared ys → All (Has declared (put declared table ys)) ys
  put_has [] table l h = tt
  put_has (y ∷ ys) table l h =
      let next = set table (reference declared [] y.name) (type_code y.type) in
      (has_put declared ys next y h.0 h.1 (has_set table y.name y.type h.0 l), put_has ys next (length-set table (reference declared [] y.name) (type_code y.type) ∙ l) h.2)

  -- all types that lines fix, once they are put down
  pub fixed-put : (ls : List Line) (table : List ℕ) → length table ≡ max_names → Distinct (over declares ls) → All (In declared) (over declares ls)
      → All (Has declared (put declared table (all_fixed ls))) (all_fixed ls)
  fixed-put ls table l d i = put_has (all_fixed ls) table l (spread declared ls d i)
