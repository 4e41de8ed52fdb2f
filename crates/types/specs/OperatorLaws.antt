-- What every operator gives and takes, by its kind.
use Rattle.std.specs.Prelude.{ℕ, [], ◌∷◌, Bool, true, false, ◌≡◌, refl, eqb, get_or}
use Rattle.std.proofs.Math.Option.{some}
use Rattle.std.proofs.Common.{◌∙◌, arith, eq-eqb}
use Rattle.language.specs.Operators.{Equal, Unequal, Less, AtMost, Greater, AtLeast, Big, BigSum, BigProduct, BigCap, BigCup, BigAnd, BigOr, Infix, Calculates, Combines, Compares, Membership, Connects, Prefix, Measures, WidthOf, Applies}
use Rattle.language.specs.Tree.{Expr}
use Rattle.language.specs.Places.{start, unless}
use Rattle.language.specs.Types.{
  ExprType,
  ANumber,
  ASet,
  AFormula,
  ABus,
  AValue,
  AType,
  Unknown,
  type_code,
  Typings,
  prefix_takes,
  prefix_gives,
  infix_gives,
  big_gives,
  type_of,
  comparable,
  fitting,
  wrong_operands,
}
use Rattle.language.proofs.Laws.Basics.Tests.{pick}
use Rattle.entries.specs.Kinds as EntryKind
use Rattle.types.specs.Codes.{takes_any, takes_sides, takes_index}
use Rattle.types.specs.Kinds.{giving, other_takes, fits, sides_of}
use Rattle.types.specs.Pass.{wrong_at}
use Rattle.types.specs.TakeLaws.{Takes, two-wrong}

abbrev Gives : ℕ → ExprType → Type 0
Gives k K = get_or giving k 0 ≡ type_code K

pub truth_gives : Gives EntryKind.truth AFormula
truth_gives = refl

pub before_gives : (o : Prefix) → Gives (EntryKind.before o) (prefix_gives o)
before_gives (Measures m) = refl
before_gives WidthOf = refl
before_gives (Applies o) = refl

pub joining_gives : (o : Infix) → Gives (EntryKind.joining o) (infix_gives o)
joining_gives (Calculates o) = refl
joining_gives (Combines o) = refl
joining_gives (Compares Equal) = refl
joining_gives (Compares Unequal) = refl
joining_gives (Compares Less) = refl
joining_gives (Compares AtMost) = refl
joining_gives (Compares Greater) = refl
joining_gives (Compares AtLeast) = refl
joining_gives Membership = refl
joining_gives (Connects o) = refl

pub window_gives : Gives EntryKind.window AFormula
window_gives = refl

pub big_gives_lem : (o : Big) → Gives (EntryKind.big o) (big_gives o)
big_gives_lem BigSum = refl
big_gives_lem BigProduct = refl
big_gives_lem BigCap = refl
big_gives_lem BigCup = refl
big_gives_lem BigAnd = refl
big_gives_lem BigOr = refl

pub binder_gives : (further : Bool) → Gives (EntryKind.binder further) ASet
binder_gives true = refl
binder_gives false = refl

pub between_gives : (h : Bool) → Gives (EntryKind.between h) ASet
between_gives true = refl
between_gives false = refl

pub truth-takes : Takes EntryKind.truth takes_any takes_any
truth-takes = record { others = refl; final = refl; plain = refl }

pub before-takes : (o : Prefix) → Takes (EntryKind.before o) takes_any (type_code (prefix_takes o))
before-takes (Measures m) = record { others = refl; final = refl; plain = refl }
before-takes WidthOf = record { others = refl; final = refl; plain = refl }
before-takes (Applies o) = record { others = refl; final = refl; plain = refl }

pub window-takes : Takes EntryKind.window (type_code ANumber) (type_code AFormula)
window-takes = record { others = refl; final = refl; plain = refl }

pub big-takes : (o : Big) → Takes (EntryKind.big o) takes_any (type_code (big_gives o))
big-takes BigSum = record { others = refl; final = refl; plain = refl }
big-takes BigProduct = record { others = refl; final = refl; plain = refl }
big-takes BigCap = record { others = refl; final = refl; plain = refl }
big-takes BigCup = record { others = refl; final = refl; plain = refl }
big-takes BigAnd = record { others = refl; final = refl; plain = refl }
big-takes BigOr = record { others = refl; final = refl; plain = refl }

pub binder-takes : (further : Bool) → Takes (EntryKind.binder further) takes_any (type_code ASet)
binder-takes true = record { others = refl; final = refl; plain = refl }
binder-takes false = record { others = refl; final = refl; plain = refl }

pub between-takes : (h : Bool) → Takes (EntryKind.between h) (type_code ANumber) (type_code ANumber)
between-takes true = record { others = refl; final = refl; plain = refl }
between-takes false = record { others = refl; final = refl; plain = refl }

-- `==` and `!=`
sides : (k l : ExprType) (s t : ℕ) → sides_of (type_code k) (type_code l) s t ≡ elim (comparable k) [ true ↦ unless (fitting k l) t | false ↦ some s ]
unfolding sides_of fits
sides ANumber ANumber s t = refl
sides ANumber ASet s t = refl
sides ANumber AFormula s t = refl
sides ANumber ABus s t = refl
sides ANumber AValue s t = refl
sides ANumber AType s t = refl
sides ANumber Unknown s t = refl
sides ASet ANumber s t = refl
sides ASet ASet s t = refl
sides ASet AFormula s t = refl
sides ASet ABus s t = refl
sides ASet AValue s t = refl
sides ASet AType s t = refl
sides ASet Unknown s t = refl
sides AFormula ANumber s t = refl
sides AFormula ASet s t = refl
sides AFormula AFormula s t = refl
sides AFormula ABus s t = refl
sides AFormula AValue s t = refl
sides AFormula AType s t = refl
sides AFormula Unknown s t = refl
sides ABus ANumber s t = refl
sides ABus ASet s t = refl
sides ABus AFormula s t = refl
sides ABus ABus s t = refl
sides ABus AValue s t = refl
sides ABus AType s t = refl
sides ABus Unknown s t = refl
sides AValue ANumber s t = refl
sides AValue ASet s t = refl
sides AValue AFormula s t = refl
sides AValue ABus s t = refl
sides AValue AValue s t = refl
sides AValue AType s t = refl
sides AValue Unknown s t = refl
sides AType ANumber s t = refl
sides AType ASet s t = refl
sides AType AFormula s t = refl
sides AType ABus s t = refl
sides AType AValue s t = refl
sides AType AType s t = refl
sides AType Unknown s t = refl
sides Unknown ANumber s t = refl
sides Unknown ASet s t = refl
sides Unknown AFormula s t = refl
sides Unknown ABus s t = refl
sides Unknown AValue s t = refl
sides Unknown AType s t = refl
sides Unknown Unknown s t = refl

equation : (k : ℕ) (a b s t : ℕ) → get_or other_takes k 0 ≡ takes_sides → wrong_at k (a ∷ b ∷ []) (s ∷ t ∷ []) ≡ sides_of a b s t
unfolding wrong_at
equation k a b s t e = pick (eqb (get_or other_takes k 0) takes_sides) _ _ (eq-eqb _ _ e)

-- the operands of an operator between them
pub joining-wrong : (ys : Typings) (o : Infix) (a b : Expr) →
    wrong_at (EntryKind.joining o) (type_code (type_of ys a) ∷ type_code (type_of ys b) ∷ []) (start a ∷ start b ∷ []) ≡ wrong_operands ys o a b
joining-wrong ys (Calculates o) a b = two-wrong ANumber ANumber _ _ _ _ (record { others = refl; final = refl; plain = refl })
joining-wrong ys (Combines o) a b = two-wrong ASet ASet _ _ _ _ (record { others = refl; final = refl; plain = refl })
joining-wrong ys (Compares Equal) a b = equation (EntryKind.joining (Compares Equal)) _ _ _ _ refl ∙ sides (type_of ys a) (type_of ys b) (start a) (start b)
joining-wrong ys (Compares Unequal) a b = equation (EntryKind.joining (Compares Unequal)) _ _ _ _ refl ∙ sides (type_of ys a) (type_of ys b) (start a) (start b)
joining-wrong ys (Compares Less) a b = two-wrong ANumber ANumber _ _ _ _ (record { others = refl; final = refl; plain = refl })
joining-wrong ys (Compares AtMost) a b = two-wrong ANumber ANumber _ _ _ _ (record { others = refl; final = refl; plain = refl })
joining-wrong ys (Compares Greater) a b = two-wrong ANumber ANumber _ _ _ _ (record { others = refl; final = refl; plain = refl })
joining-wrong ys (Compares AtLeast) a b = two-wrong ANumber ANumber _ _ _ _ (record { others = refl; final = refl; plain = refl })
joining-wrong ys Membership a b = two-wrong ANumber ASet _ _ _ _ (record { others = refl; final = refl; plain = refl })
joining-wrong ys (Connects o) a b = two-wrong AFormula AFormula _ _ _ _ (record { others = refl; final = refl; plain = refl })

pub joining_unindexed : (o : Infix) → get_or other_takes (EntryKind.joining o) 0 ≡ takes_index → ⊥
joining_unindexed (Calculates o) e = omega arith
joining_unindexed (Combines o) e = omega arith
joining_unindexed (Compares Equal) e = omega arith
joining_unindexed (Compares Unequal) e = omega arith
joining_unindexed (Compares Less) e = omega arith
joining_unindexed (Compares AtMost) e = omega arith
joining_unindexed (Compares Greater) e = omega arith
joining_unindexed (Compares AtLeast) e = omega arith
joining_unindexed Membership e = omega arith
joining_unindexed (Connects o) e = omega arith
