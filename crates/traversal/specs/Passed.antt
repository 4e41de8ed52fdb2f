-- The states of a pass by the number of cells passed, as a loop counts them.
use Rattle.std.specs.Prelude.{ℕ, zero, suc}
use Rattle.traversal.specs.declared.Cell.{Cell}

unfoldable pub passed : {State : Type 0} → (Cell → State → State) → (ℕ → Cell) → State → ℕ → State
passed step cell s zero = s
passed step cell s (suc i) = step (cell i) (passed step cell s i)
