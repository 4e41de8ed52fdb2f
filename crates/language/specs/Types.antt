-- Refusal 9: 'operand, width, declaring type or a line's expression of a wrong type'. An operator fixes its result's type, so a wrong operand inside hides none
-- outside.
use Rattle.std.specs.Prelude.{ℕ, List, [], ◌∷◌, Bool, true, false, ◌&&◌, ◌||◌, eqb}
use Rattle.std.proofs.Math.Option.{Option, none, some}
use Rattle.language.specs.Bytes.{if◌then◌otherwise◌, same}
use Rattle.language.specs.Tokens.{Token}
use Rattle.language.specs.Operators.{
  Equal,
  Unequal,
  Less,
  AtMost,
  Greater,
  AtLeast,
  Big,
  BigSum,
  BigProduct,
  BigCap,
  BigCup,
  BigAnd,
  BigOr,
  Infix,
  Calculates,
  Combines,
  Compares,
  Membership,
  Connects,
  Prefix,
  Measures,
  WidthOf,
  Applies,
}
use Rattle.language.specs.Tree.{
  Expr,
  Named,
  Numeral,
  Truth,
  Index,
  Paren,
  Prefixed,
  Joined,
  Nexts,
  InWindow,
  Each,
  Between,
  Listed,
  Empty,
  Element,
  Range,
  Identifier,
  Defined,
  Enumerated,
  OneSignal,
  OfWidth,
  OfType,
  Spec,
}
use Rattle.language.specs.Places.{start, first, unless, TextLine, ParameterLine, DefinitionLine, DeclarationLine, FormulaLine, all_lines}

-- a number, a set, a formula, a bus, an enumeration's identifier, an enumeration, no visible name
pub data ExprType : Type 0 where
  ANumber ASet AFormula ABus AValue AType Unknown : ExprType

abbrev pub type_code : ExprType → ℕ
type_code ANumber = 0
type_code ASet = 1
type_code AFormula = 2
type_code ABus = 3
type_code AValue = 4
type_code AType = 5
type_code Unknown = 6

abbrev pub is_type : ExprType → ExprType → Bool
is_type k l = eqb (type_code k) (type_code l)

-- the visible names with their types
pub record Typing : Type 0 where
  pub name : Token
  pub type : ExprType

abbrev pub Typings : Type 0
Typings = List Typing

abbrev pub type_in : Typings → Token → ExprType
type_in [] t = Unknown
type_in (y ∷ ys) t = elim (same y.name.text t.text) [ true ↦ y.type | false ↦ type_in ys t ]

-- what an operator takes and gives
abbrev pub prefix_takes : Prefix → ExprType
prefix_takes (Measures m) = ASet
prefix_takes WidthOf = ABus
prefix_takes (Applies o) = AFormula

abbrev pub prefix_gives : Prefix → ExprType
prefix_gives (Measures m) = ANumber
prefix_gives WidthOf = ANumber
prefix_gives (Applies o) = AFormula

abbrev pub infix_gives : Infix → ExprType
infix_gives (Calculates o) = ANumber
infix_gives (Combines o) = ASet
infix_gives (Compares o) = AFormula
infix_gives Membership = AFormula
infix_gives (Connects o) = AFormula

abbrev pub big_gives : Big → ExprType
big_gives BigSum = ANumber
big_gives BigProduct = ANumber
big_gives BigCap = ASet
big_gives BigCup = ASet
big_gives BigAnd = AFormula
big_gives BigOr = AFormula

-- a big operator's name is a number
abbrev pub with_number : Token → Typings → Typings
with_number i ys = record { name = i; type = ANumber } ∷ ys

abbrev pub type_of : Typings → Expr → ExprType
type_of ys (Named t) = type_in ys t
type_of ys (Numeral t) = ANumber
type_of ys (Truth t b) = AFormula
type_of ys (Index t e) = AFormula
type_of ys (Paren t e) = type_of ys e
type_of ys (Prefixed t o e) = prefix_gives o
type_of ys (Joined t o a b) = infix_gives o
type_of ys (Nexts t n e) = AFormula
type_of ys (InWindow t o n m e) = AFormula
type_of ys (Each t o further i s e) = big_gives o
type_of ys (Between t l h a b) = ASet
type_of ys (Listed t es) = ASet
type_of ys Empty = ASet
type_of ys (Element e es) = ASet
type_of ys (Range t x y z) = ASet

-- 'its first token', unless the expression has the type
abbrev pub wrong : ExprType → Typings → Expr → Option ℕ
wrong k ys e = unless (is_type k (type_of ys e)) (start e)

-- `==` and `!=` take two numbers, or a bus and an identifier in either order ('the right operand's if two only clash')
abbrev pub comparable : ExprType → Bool
comparable k = is_type ANumber k || is_type ABus k || is_type AValue k

abbrev pub fitting : ExprType → ExprType → Bool
fitting k l = is_type ANumber k && is_type ANumber l || is_type ABus k && is_type AValue l || is_type AValue k && is_type ABus l

abbrev pub wrong_sides : Typings → Expr → Expr → Option ℕ
wrong_sides ys a b = if comparable (type_of ys a) then unless (fitting (type_of ys a) (type_of ys b)) (start b) otherwise some (start a)

abbrev pub wrong_both : ExprType → Typings → Expr → Expr → Option ℕ
wrong_both k ys a b = first (wrong k ys a) (wrong k ys b)

abbrev pub wrong_operands : Typings → Infix → Expr → Expr → Option ℕ
wrong_operands ys (Calculates o) a b = wrong_both ANumber ys a b
wrong_operands ys (Combines o) a b = wrong_both ASet ys a b
wrong_operands ys (Compares Equal) a b = wrong_sides ys a b
wrong_operands ys (Compares Unequal) a b = wrong_sides ys a b
wrong_operands ys (Compares Less) a b = wrong_both ANumber ys a b
wrong_operands ys (Compares AtMost) a b = wrong_both ANumber ys a b
wrong_operands ys (Compares Greater) a b = wrong_both ANumber ys a b
wrong_operands ys (Compares AtLeast) a b = wrong_both ANumber ys a b
wrong_operands ys Membership a b = first (wrong ANumber ys a) (wrong ASet ys b)
wrong_operands ys (Connects o) a b = wrong_both AFormula ys a b

-- the first operand of a wrong type inside an expression
abbrev pub mistyped : Typings → Expr → Option ℕ
mistyped ys (Named t) = none
mistyped ys (Numeral t) = none
mistyped ys (Truth t b) = none
mistyped ys (Index t e) = first (unless (is_type ABus (type_in ys t)) t.at) (first (wrong ANumber ys e) (mistyped ys e))
mistyped ys (Paren t e) = mistyped ys e
mistyped ys (Prefixed t o e) = first (wrong (prefix_takes o) ys e) (mistyped ys e)
mistyped ys (Joined t o a b) = first (wrong_operands ys o a b) (first (mistyped ys a) (mistyped ys b))
mistyped ys (Nexts t n e) = first (first (wrong ANumber ys n) (mistyped ys n)) (first (wrong AFormula ys e) (mistyped ys e))
mistyped ys (InWindow t o n m e) =
    first (first (wrong ANumber ys n) (mistyped ys n))
    (first (first (wrong ANumber ys m) (mistyped ys m)) (first (wrong AFormula ys e) (mistyped ys e)))
mistyped ys (Each t o further i s e) =
    first (first (wrong ASet ys s) (mistyped ys s)) (first (wrong (big_gives o) (with_number i ys) e) (mistyped (with_number i ys) e))
mistyped ys (Between t l h a b) = first (wrong_both ANumber ys a b) (first (mistyped ys a) (mistyped ys b))
mistyped ys (Listed t es) = mistyped ys es
mistyped ys Empty = none
mistyped ys (Element e es) = first (first (wrong ANumber ys e) (mistyped ys e)) (mistyped ys es)
mistyped ys (Range t x y z) =
    first (first (wrong ANumber ys x) (mistyped ys x)) (first (first (wrong ANumber ys y) (mistyped ys y)) (first (wrong ANumber ys z) (mistyped ys z)))

-- an expression that must have the type
abbrev pub demanded : ExprType → Typings → Expr → Option ℕ
demanded k ys e = first (wrong k ys e) (mistyped ys e)

-- 'a definition is a number, a set or a formula'
abbrev pub definable : ExprType → Bool
definable k = is_type ANumber k || is_type ASet k || is_type AFormula k

abbrev pub mistyped_line : Typings → TextLine → Option ℕ
mistyped_line ys (ParameterLine x e) = demanded ANumber ys e
mistyped_line ys (DefinitionLine (Defined x e)) = first (unless (definable (type_of ys e)) (start e)) (mistyped ys e)
mistyped_line ys (DefinitionLine (Enumerated x is)) = none
mistyped_line ys (DeclarationLine (OneSignal x)) = none
mistyped_line ys (DeclarationLine (OfWidth x e)) = demanded ANumber ys e
mistyped_line ys (DeclarationLine (OfType u x)) = unless (is_type AType (type_in ys u)) u.at
mistyped_line ys (FormulaLine e) = demanded AFormula ys e

abbrev pub typed_values : List Identifier → Typings → Typings
typed_values [] ys = ys
typed_values (i ∷ is) ys = record { name = i.name; type = AValue } ∷ typed_values is ys

-- what is visible after a line
abbrev pub typed_after : Typings → TextLine → Typings
typed_after ys (ParameterLine x e) = record { name = x; type = ANumber } ∷ ys
typed_after ys (DefinitionLine (Defined x e)) = record { name = x; type = type_of ys e } ∷ ys
typed_after ys (DefinitionLine (Enumerated x is)) = record { name = x; type = AType } ∷ typed_values is ys
typed_after ys (DeclarationLine d) = ys
typed_after ys (FormulaLine e) = ys

-- signals and buses
abbrev pub typed_signals : List TextLine → Typings
typed_signals [] = []
typed_signals (ParameterLine x e ∷ ls) = typed_signals ls
typed_signals (DefinitionLine d ∷ ls) = typed_signals ls
typed_signals (DeclarationLine (OneSignal x) ∷ ls) = record { name = x; type = AFormula } ∷ typed_signals ls
typed_signals (DeclarationLine (OfWidth x e) ∷ ls) = record { name = x; type = ABus } ∷ typed_signals ls
typed_signals (DeclarationLine (OfType u x) ∷ ls) = record { name = x; type = ABus } ∷ typed_signals ls
typed_signals (FormulaLine e ∷ ls) = typed_signals ls

abbrev pub mistyped_lines : Typings → List TextLine → Option ℕ
mistyped_lines ys [] = none
mistyped_lines ys (l ∷ ls) = first (mistyped_line ys l) (mistyped_lines (typed_after ys l) ls)

-- refusal 9
abbrev pub wrong_type : Spec → Option ℕ
wrong_type x = mistyped_lines (typed_signals (all_lines x)) (all_lines x)
