-- The types of declared names that do not depend on an expression, put down before the pass: 'signals and buses everywhere'. The pass adds definitions' as their lines come.
use Rattle.std.specs.Prelude.{ℕ, List, [], ◌∷◌, ◌++◌, ◌≡◌, eqb, length, get_or, set, replicate}
use Rattle.language.specs.Bytes.{if◌then◌otherwise◌}
use Rattle.language.specs.Limits.{max_names}
use Rattle.entries.specs.Kinds as Kind
use Rattle.traversal.specs.declared.Cell.{Cell}
use Rattle.types.specs.Codes.{a_number, a_formula, a_bus, a_value, a_type, undeclared}
use Rattle.types.specs.Cells.{named_cell}
use Rattle.traversal.specs.Passed.{passed}
use Rattle.types.specs.Kinds.{reference_of}

-- by kind, from lines on: a parameter is a number, then enumerations, their identifiers, signals, which are formulas, buses; undeclared if the entry declares no name, or a definition's
abbrev pub declaring : List ℕ
declaring = replicate Kind.parameter undeclared ++ (a_number ∷ undeclared ∷ a_type ∷ a_value ∷ undeclared ∷ a_formula ∷ a_bus ∷ a_bus ∷ undeclared ∷ undeclared ∷ [])

unfoldable pub declare : Cell → List ℕ → List ℕ
declare c table = if eqb (get_or declaring c.kind 0) undeclared then table otherwise set table (reference_of c.token) (get_or declaring c.kind 0)

-- the table after the first n entries of the buffer
abbrev pub declared_table : List ℕ → List ℕ → ℕ → List ℕ
declared_table refs w n = passed declare (named_cell refs w) (replicate max_names 0) n

-- the table t after i entries, from t₀ on
pub record Declared (refs w t₀ t : List ℕ) (i : ℕ) : Type 0 where
  pub passes : t ≡ passed declare (named_cell refs w) t₀ i
  pub size : length t ≡ max_names
