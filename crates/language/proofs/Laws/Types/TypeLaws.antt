-- Answers of a type: what takes a value of a type finds one there (no `misfit`).
use Rattle.std.specs.Prelude.{◌≡◌}
use Rattle.std.proofs.Common.{sym, subst, arith}
use Rattle.std.proofs.Math.Option.{none}
use Rattle.node.specs.Result.{Result, ◌>>=◌}
use Rattle.language.specs.Tree.{Expr}
use Rattle.language.specs.Places.{start}
use Rattle.language.specs.Types.{ExprType, ANumber, ASet, AFormula, ABus, AValue, AType, Unknown, is_type, Typings, type_of, wrong}
use Rattle.language.specs.Values.{Value, number, set, bus, choice}
use Rattle.language.proofs.Laws.Basics.Lists.{Any}
use Rattle.language.proofs.Laws.Basics.NoPlace.{unless_none}
use Rattle.language.proofs.Laws.Basics.Results.{bind}
use Rattle.language.proofs.Laws.Values.ValueTypes.{is_type_equal, IsOf, number_as, set_as, bus_as, choice_as}
use Rattle.language.proofs.Laws.Types.Reaching.{Reaches}

-- an expression's answer is of its type, where the type is one of values; nothing is asked of an enumeration's name or of one that is not visible
abbrev pub Evaluates : ExprType → Result Value → Type 0
Evaluates ANumber r = Reaches (IsOf ANumber) r
Evaluates ASet r = Reaches (IsOf ASet) r
Evaluates AFormula r = Reaches (IsOf AFormula) r
Evaluates ABus r = Reaches (IsOf ABus) r
Evaluates AValue r = Reaches (IsOf AValue) r
Evaluates AType r = Unit {0}
Evaluates Unknown r = Unit {0}

-- an answer of the type
pub reaches_evaluates : (k : ExprType) (r : Result Value) → Reaches (IsOf k) r → Evaluates k r
reaches_evaluates ANumber r h = h
reaches_evaluates ASet r h = h
reaches_evaluates AFormula r h = h
reaches_evaluates ABus r h = h
reaches_evaluates AValue r h = h
reaches_evaluates AType r h = tt
reaches_evaluates Unknown r h = tt

-- an operand of the type that is demanded
pub demanded_evaluates : (k : ExprType) (ys : Typings) (e : Expr) (r : Result Value) → wrong k ys e ≡ none → Evaluates (type_of ys e) r → Evaluates k r
demanded_evaluates k ys e r w h =
    subst (λ (l : ExprType). Evaluates l r) (sym (is_type_equal k (type_of ys e) (unless_none (is_type k (type_of ys e)) (start e) w))) h

-- what takes a value of a type finds one there
pub number_reaches : (v : Value) → IsOf ANumber v → Reaches Any (number v)
number_reaches = number_as (IsOf ANumber) (λ n h. tt) (λ v n h. absurd (n h))

pub set_reaches : (v : Value) → IsOf ASet v → Reaches Any (set v)
set_reaches = set_as (IsOf ASet) (λ s h. tt) (λ v n h. absurd (n h))

-- 'SIZEOF of a bus not yet sized' is 13
pub bus_reaches : (v : Value) → IsOf ABus v → Reaches Any (bus v)
bus_reaches = bus_as (IsOf ABus) (λ p k n h. tt) (λ p h. omega arith) (λ v n h. absurd (n h))

pub choice_reaches : (v : Value) → IsOf AValue v → Reaches Any (choice v)
choice_reaches = choice_as (IsOf AValue) (λ w h. tt) (λ v n h. absurd (n h))

pub number_of : (r : Result Value) → Evaluates ANumber r → Reaches Any (r >>= number)
number_of r h = bind r number h number_reaches

pub set_of_lem : (r : Result Value) → Evaluates ASet r → Reaches Any (r >>= set)
set_of_lem r h = bind r set h set_reaches

pub bus_of : (r : Result Value) → Evaluates ABus r → Reaches Any (r >>= bus)
bus_of r h = bind r bus h bus_reaches
