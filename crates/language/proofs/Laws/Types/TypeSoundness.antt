-- An expression without a wrong operand is worked out to a value of its type, or refused by 11, 12 or 13.
use Rattle.std.specs.Prelude.{ℕ, ◌≡◌, refl, Bool, true, false, ◌∷◌}
use Rattle.std.proofs.Common.{subst, sym, arith}
use Rattle.std.proofs.lemmas.Bool.{false≢true}
use Rattle.std.proofs.Math.Option.{none}
use Rattle.node.specs.Result.{Result, Done}
use Rattle.language.specs.Bytes.{same}
use Rattle.language.specs.Tokens.{Token}
use Rattle.language.specs.Operators.{Calculates, Combines, Compares, Membership, Connects, Measures, WidthOf, Applies}
use Rattle.language.specs.Tree.{Expr, Named, Numeral, Truth, Index, Paren, Prefixed, Joined, Nexts, InWindow, Each, Between, Listed, Empty, Element, Range}
use Rattle.language.specs.Places.{first}
use Rattle.language.specs.Types.{ExprType, ANumber, ASet, AFormula, ABus, Typings, type_in, type_of, with_number, big_gives, wrong, mistyped, demanded}
use Rattle.language.specs.Sets.{combine}
use Rattle.language.specs.Values.{Value, Number, Logic, Scope, naming, value}
use Rattle.language.specs.Braces.{Proper}
use Rattle.language.proofs.Laws.Basics.NoPlace.{first-left, first-right}
use Rattle.language.proofs.Laws.Basics.Results.{done}
use Rattle.language.proofs.Laws.Types.Reaching.{next, late-unless}
use Rattle.language.proofs.Laws.Types.TypeLaws.{Evaluates, reaches_evaluates, demanded_evaluates, number_of, set_of_lem, bus_of}
use Rattle.language.proofs.Laws.Types.OperandLaws.{then_number, then_set, calculate_reaches, measure_reaches, limited_reaches, range_reaches, between_reaches, big_reaches}

-- every visible name stands for a value of its type
abbrev pub Agree : Typings → Scope → Type 0
Agree ys sc = (t : Token) → Evaluates (type_in ys t) (sc t)

pub entry_evaluates : (b : Bool) (k l : ExprType) (v w : Result Value) → Evaluates k v → Evaluates l w
    → Evaluates (elim b [ true ↦ k | false ↦ l ]) (elim b [ true ↦ v | false ↦ w ])
entry_evaluates true k l v w h i = h
entry_evaluates false k l v w h i = i

pub agree-naming : (ys : Typings) (sc : Scope) (x : Token) (k : ExprType) (v : Result Value) → Agree ys sc → Evaluates k v
    → Agree (record { name = x; type = k } ∷ ys) (naming x v sc)
agree-naming ys sc x k v a h t = entry_evaluates (same x.text t.text) k (type_in ys t) v (sc t) h (a t)

pub agree-number : (ys : Typings) (sc : Scope) (i : Token) (n : ℕ) → Agree ys sc → Agree (with_number i ys) (naming i (Done (Number n)) sc)
agree-number ys sc i n a = agree-naming ys sc i ANumber (Done (Number n)) a (done refl)

-- an operand that refusal 9 takes
pub record Taken (k : ExprType) (ys : Typings) (e : Expr) : Type 0 where
  pub fits : wrong k ys e ≡ none
  pub inside : mistyped ys e ≡ none

pub taken : (k : ExprType) (ys : Typings) (e : Expr) → demanded k ys e ≡ none → Taken k ys e
taken k ys e h = record { fits = first-left (wrong k ys e) (mistyped ys e) h; inside = first-right (wrong k ys e) (mistyped ys e) h }

pub taken-both : (k l : ExprType) (ys : Typings) (a b : Expr) → first (first (wrong k ys a) (wrong l ys b)) (first (mistyped ys a) (mistyped ys b)) ≡ none
    → Taken k ys a × Taken l ys b
taken-both k l ys a b h =
    let w = first-left (first (wrong k ys a) (wrong l ys b)) (first (mistyped ys a) (mistyped ys b)) h in
    let m = first-right (first (wrong k ys a) (wrong l ys b)) (first (mistyped ys a) (mistyped ys b)) h in (
      record { fits = first-left (wrong k ys a) (wrong l ys b) w; inside = first-left (mistyped ys a) (mistyped ys b) m },
      record { fits = first-right (wrong k ys a) (wrong l ys b) w; inside = first-right (mistyped ys a) (mistyped ys b) m },
    )

pub taken-two : (k l : ExprType) (ys zs : Typings) (a b : Expr) → first (demanded k ys a) (demanded l zs b) ≡ none → Taken k ys a × Taken l zs b
taken-two k l ys zs a b h =
    (taken k ys a (first-left (demanded k ys a) (demanded l zs b) h), taken l zs b (first-right (demanded k ys a) (demanded l zs b) h))

pub taken-three : (l : ExprType) (ys : Typings) (a b c : Expr) → first (demanded ANumber ys a) (first (demanded ANumber ys b) (demanded l ys c)) ≡ none
    → Taken ANumber ys a × Taken ANumber ys b × Taken l ys c
taken-three l ys a b c h =
    let p = demanded ANumber ys a in
    let q = first (demanded ANumber ys b) (demanded l ys c) in
    let r = taken-two ANumber l ys ys b c (first-right p q h) in
    (taken ANumber ys a (first-left p q h), r.0, r.1)

pub operand : (k : ExprType) (ys : Typings) (e : Expr) (r : Result Value) → Taken k ys e → (mistyped ys e ≡ none → Evaluates (type_of ys e) r) → Evaluates k r
operand k ys e r t h = demanded_evaluates k ys e r t.fits (h t.inside)

logic : Evaluates AFormula (Done Logic)
logic = done refl

-- the elements of a set are a set, whatever the names are
no_elements : {A : Type 0} → true ≡ false → A
no_elements e = absurd (false≢true (sym e))

elements-set : (ys : Typings) (e : Expr) → Proper true e → type_of ys e ≡ ASet
elements-set ys (Named t) p = no_elements p.0
elements-set ys (Numeral t) p = no_elements p.0
elements-set ys (Truth t b) p = no_elements p.0
elements-set ys (Index t e) p = no_elements p.0
elements-set ys (Paren t e) p = no_elements p.0
elements-set ys (Prefixed t o e) p = no_elements p.0.0
elements-set ys (Joined t o a b) p = no_elements p.0.0
elements-set ys (Nexts t n e) p = no_elements p.0
elements-set ys (InWindow t o n m e) p = no_elements p.0.0
elements-set ys (Each t o further i s e) p = no_elements p.0.0
elements-set ys (Between t l h a b) p = refl
elements-set ys (Listed t es) p = refl
elements-set ys Empty p = refl
elements-set ys (Element e es) p = refl
elements-set ys (Range t x y z) p = refl

pub value_evaluates : (ys : Typings) (sc : Scope) → Agree ys sc → (e : Expr) (braces : Bool) → Proper braces e → mistyped ys e ≡ none → Evaluates (type_of ys e) (value sc e)
value_evaluates ys sc a (Named t) braces s h = a t
value_evaluates ys sc a (Numeral t) braces s h = then_number _ (late-unless _ 11 t.at _ (omega arith))
value_evaluates ys sc a (Truth t b) braces s h = logic
value_evaluates ys sc a (Index t e) braces s h = logic
value_evaluates ys sc a (Paren t e) braces s h = value_evaluates ys sc a e false s.1 h
value_evaluates ys sc a (Prefixed t (Measures m) e) braces s h =
    then_number _ (next _ _ (set_of_lem (value sc e) (operand ASet ys e _ (taken ASet ys e h) (value_evaluates ys sc a e false s.1))) (measure_reaches t.at m))
value_evaluates ys sc a (Prefixed t WidthOf e) braces s h =
    next _ _ (bus_of (value sc e) (operand ABus ys e _ (taken ABus ys e h) (value_evaluates ys sc a e false s.1)))
    (λ b. done refl)
value_evaluates ys sc a (Prefixed t (Applies o) e) braces s h = logic
value_evaluates ys sc a (Joined t (Calculates o) b c) braces s h =
    let w = taken-both ANumber ANumber ys b c h in
    next _ _ (number_of (value sc b) (operand ANumber ys b _ w.0 (value_evaluates ys sc a b false s.1))) (λ m.
    then_number _ (next _ _ (number_of (value sc c) (operand ANumber ys c _ w.1 (value_evaluates ys sc a c false s.2))) (calculate_reaches t.at o m)))
value_evaluates ys sc a (Joined t (Combines o) b c) braces s h =
    let w = taken-both ASet ASet ys b c h in
    next _ _ (set_of_lem (value sc b) (operand ASet ys b _ w.0 (value_evaluates ys sc a b false s.1))) (λ m.
    next _ _ (set_of_lem (value sc c) (operand ASet ys c _ w.1 (value_evaluates ys sc a c false s.2))) (λ n.
    then_set _ (limited_reaches t.at (combine o m n))))
value_evaluates ys sc a (Joined t (Compares o) b c) braces s h = logic
value_evaluates ys sc a (Joined t Membership b c) braces s h = logic
value_evaluates ys sc a (Joined t (Connects o) b c) braces s h = logic
value_evaluates ys sc a (Nexts t n e) braces s h = logic
value_evaluates ys sc a (InWindow t o n m e) braces s h = logic
value_evaluates ys sc a (Each t o further i m e) braces s h =
    let w = taken-two ASet (big_gives o) ys (with_number i ys) m e h in
    reaches_evaluates (big_gives o) _ (next _ _ (set_of_lem (value sc m) (operand ASet ys m _ w.0 (value_evaluates ys sc a m false s.1))) (λ l.
    big_reaches t.at o _ (λ n. operand (big_gives o) (with_number i ys) e _ w.1
    (value_evaluates (with_number i ys) (naming i (Done (Number n)) sc) (agree-number ys sc i n a) e false s.2)) l))
value_evaluates ys sc a (Between t l u b c) braces s h =
    let w = taken-both ANumber ANumber ys b c h in
    next _ _ (number_of (value sc b) (operand ANumber ys b _ w.0 (value_evaluates ys sc a b false s.1))) (λ m.
    then_set _ (next _ _ (number_of (value sc c) (operand ANumber ys c _ w.1 (value_evaluates ys sc a c false s.2))) (between_reaches t.at l u m)))
value_evaluates ys sc a (Listed t es) braces s h =
    then_set _ (next _ _ (set_of_lem (value sc es) (subst (λ (k : ExprType). Evaluates k (value sc es)) (elements-set ys es s.1) (value_evaluates ys sc a es true s.1 h)))
    (limited_reaches t.at))
value_evaluates ys sc a Empty braces s h = done refl
value_evaluates ys sc a (Element e es) braces s h =
    let d = first-left (demanded ANumber ys e) (mistyped ys es) h in
    let m = first-right (demanded ANumber ys e) (mistyped ys es) h in
    next _ _ (number_of (value sc e) (operand ANumber ys e _ (taken ANumber ys e d) (value_evaluates ys sc a e false s.1))) (λ n.
    next _ _ (set_of_lem (value sc es) (subst (λ (k : ExprType). Evaluates k (value sc es)) (elements-set ys es s.2) (value_evaluates ys sc a es true s.2 m)))
    (λ l. done refl))
value_evaluates ys sc a (Range t x y z) braces s h =
    let w = taken-three ANumber ys x y z h in
    next _ _ (number_of (value sc x) (operand ANumber ys x _ w.0 (value_evaluates ys sc a x false s.1))) (λ i.
    next _ _ (number_of (value sc y) (operand ANumber ys y _ w.1 (value_evaluates ys sc a y false s.2))) (λ j.
    then_set _ (next _ _ (number_of (value sc z) (operand ANumber ys z _ w.2 (value_evaluates ys sc a z false s.3))) (range_reaches t.at i j))))
