-- A big operator of numbers or of sets by the kind of its entry and the code of the operator that it folds with; what it comes to over nothing.
use Rattle.std.specs.Prelude.{ℕ, true, false, ltb, eqb, Ok, Err}
use Rattle.node.specs.Returned.{refusal}
use Rattle.machine.specs.declared.Move.TheVariants.{Next}
use Rattle.machine.specs.Stepped.{Stepped}
use Rattle.language.specs.Operators.{Times, Cup, Big, BigSum, BigProduct, BigCap, BigCup, BigAnd, BigOr}
use Rattle.entries.specs.Kinds as Kind
use Rattle.operators.specs.Codes.{arithmetic_code, combination_code}
use Rattle.machine.specs.Telling.{is_number, is_set, is_logic}
use Rattle.machine.specs.Moves.{came}
use Rattle.machine.specs.declared.Machine.{Machine}

abbrev pub big_by : ℕ → ℕ → Big
big_by kind code =
    elim (ltb kind Kind.big_sets) [
      | true ↦ elim (eqb code (arithmetic_code Times)) [ true ↦ BigProduct | false ↦ BigSum ]
      | false ↦ elim (eqb code (combination_code Cup)) [ true ↦ BigCup | false ↦ BigCap ]
    ]

-- over nothing
abbrev pub over_nothing : Machine → Big → ℕ → Stepped
over_nothing m BigSum p = Ok (Next (came m is_number 0 0))
over_nothing m BigProduct p = Ok (Next (came m is_number 1 0))
over_nothing m BigCap p = Err (refusal 11 p)
over_nothing m BigCup p = Ok (Next (came m is_set 0 m.top))
over_nothing m BigAnd p = Ok (Next (came m is_logic 0 0))
over_nothing m BigOr p = Ok (Next (came m is_logic 0 0))
