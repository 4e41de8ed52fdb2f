-- The operators of a group by number: those of numbers and sets in the order of the language's definitions, those of formulas by their nodes' kinds. A big operator has the
-- number of the operator that it joins with.
use Rattle.std.specs.Prelude.{ℕ, List, [], ◌∷◌}
use Rattle.node.specs.Operators.{X, F, G, And, Or}
use Rattle.node.specs.Kinds.{unary_kind, binary_kind}
use Rattle.language.specs.Operators.{
  Arithmetic,
  Plus,
  Minus,
  Times,
  Divide,
  Modulo,
  Measure,
  Size,
  Min,
  Max,
  Combination,
  Cup,
  Cap,
  Without,
  Comparison,
  Equal,
  Unequal,
  Less,
  AtMost,
  Greater,
  AtLeast,
  Big,
  BigSum,
  BigProduct,
  BigCap,
  BigCup,
  BigAnd,
  BigOr,
  FinallyIn,
  GloballyIn,
  Infix,
  Calculates,
  Combines,
  Compares,
  Membership,
  Connects,
  Prefix,
  Measures,
  WidthOf,
  Applies,
  Role,
  Plain,
  Counted,
  Windowed,
  Folding,
}

abbrev pub arithmetic_code : Arithmetic → ℕ
arithmetic_code Plus = 0
arithmetic_code Minus = 1
arithmetic_code Times = 2
arithmetic_code Divide = 3
arithmetic_code Modulo = 4

abbrev pub combination_code : Combination → ℕ
combination_code Cup = 0
combination_code Cap = 1
combination_code Without = 2

abbrev pub comparison_code : Comparison → ℕ
comparison_code Equal = 0
comparison_code Unequal = 1
comparison_code Less = 2
comparison_code AtMost = 3
comparison_code Greater = 4
comparison_code AtLeast = 5

abbrev pub infix_code : Infix → ℕ
infix_code (Calculates o) = arithmetic_code o
infix_code (Combines o) = combination_code o
infix_code (Compares o) = comparison_code o
infix_code Membership = 0
infix_code (Connects o) = binary_kind o

abbrev pub measure_code : Measure → ℕ
measure_code Size = 0
measure_code Min = 1
measure_code Max = 2

abbrev pub prefix_code : Prefix → ℕ
prefix_code (Measures m) = measure_code m
prefix_code WidthOf = 0
prefix_code (Applies o) = unary_kind o

abbrev pub big_code : Big → ℕ
big_code BigSum = arithmetic_code Plus
big_code BigProduct = arithmetic_code Times
big_code BigCap = combination_code Cap
big_code BigCup = combination_code Cup
big_code BigAnd = binary_kind And
big_code BigOr = binary_kind Or

-- of a token before an operand
abbrev pub role_code : Role → ℕ
role_code (Plain p) = prefix_code p
role_code Counted = unary_kind X
role_code (Windowed FinallyIn) = unary_kind F
role_code (Windowed GloballyIn) = unary_kind G
role_code (Folding o) = big_code o

-- of numbers and sets, in their order
abbrev pub codes : List ℕ
codes =
    arithmetic_code Plus ∷ arithmetic_code Minus ∷ arithmetic_code Times ∷ arithmetic_code Divide ∷ arithmetic_code Modulo ∷
    combination_code Cup ∷ combination_code Cap ∷ combination_code Without ∷
    comparison_code Equal ∷ comparison_code Unequal ∷ comparison_code Less ∷ comparison_code AtMost ∷ comparison_code Greater ∷ comparison_code AtLeast ∷
    measure_code Size ∷ measure_code Min ∷ measure_code Max ∷ []
