-- The operators by the numbers that the code gives them (operators/Codes), the last one of a group for every further number.
use Rattle.std.specs.Prelude.{ℕ, true, false, eqb}
use Rattle.language.specs.Operators.{
  Arithmetic,
  Plus,
  Minus,
  Times,
  Divide,
  Modulo,
  Measure,
  Size,
  Min,
  Max,
  Combination,
  Cup,
  Cap,
  Without,
  Comparison,
  Equal,
  Unequal,
  Less,
  AtMost,
  Greater,
  AtLeast,
}
use Rattle.operators.specs.Codes.{arithmetic_code, comparison_code, measure_code, combination_code}

-- the operator o where k is its number
abbrev pub numbered : {A : Type 0} → (A → ℕ) → ℕ → A → A → A
numbered code k o other = elim (eqb k (code o)) [ true ↦ o | false ↦ other ]

abbrev pub arithmetic : ℕ → Arithmetic
arithmetic k = numbered arithmetic_code k Plus (numbered arithmetic_code k Minus (numbered arithmetic_code k Times (numbered arithmetic_code k Divide Modulo)))

abbrev pub comparison : ℕ → Comparison
comparison k =
    numbered comparison_code k Equal
    (numbered comparison_code k Unequal (numbered comparison_code k Less (numbered comparison_code k AtMost (numbered comparison_code k Greater AtLeast))))

abbrev pub measurement : ℕ → Measure
measurement k = numbered measure_code k Size (numbered measure_code k Min Max)

abbrev pub combination : ℕ → Combination
combination k = numbered combination_code k Cup (numbered combination_code k Cap Without)
