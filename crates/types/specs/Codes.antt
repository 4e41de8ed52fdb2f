-- Types of expressions as numbers, `type_code` of the definition of refusal 9, and what else the tables over kinds hold beside them.
use Rattle.std.specs.Prelude.{ℕ, List, [], ◌∷◌}
use Rattle.language.specs.Types.{ANumber, ASet, AFormula, ABus, AValue, AType, type_code}

-- the types
abbrev pub a_number : ℕ
a_number = type_code ANumber

abbrev pub a_set : ℕ
a_set = type_code ASet

abbrev pub a_formula : ℕ
a_formula = type_code AFormula

abbrev pub a_bus : ℕ
a_bus = type_code ABus

abbrev pub a_value : ℕ
a_value = type_code AValue

abbrev pub a_type : ℕ
a_type = type_code AType

-- what an entry gives: the type of its name, that of its operand, or nothing, as a line
abbrev pub gives_name : ℕ
gives_name = 6

abbrev pub gives_operand : ℕ
gives_operand = 7

abbrev pub gives_nothing : ℕ
gives_nothing = 8

-- what an operand may be: of any type; of one that 'a definition is', which are those before a bus
abbrev pub takes_any : ℕ
takes_any = 8

abbrev pub takes_definable : ℕ
takes_definable = 9

abbrev pub first_undefinable : ℕ
first_undefinable = a_bus

-- what the operands before the last are: the sides of an equation; an index, which stands on a bus
abbrev pub takes_sides : ℕ
takes_sides = 10

abbrev pub takes_index : ℕ
takes_index = 11

-- an entry declares no name, or a definition's
abbrev pub undeclared : ℕ
undeclared = 8

-- what the code's constants stand for
abbrev pub codes : List ℕ
codes =
    a_number ∷ a_set ∷ a_formula ∷ a_bus ∷ a_value ∷ a_type ∷
    gives_nothing ∷ takes_any ∷ takes_definable ∷ first_undefinable ∷ takes_sides ∷ takes_index ∷ undeclared ∷ []
