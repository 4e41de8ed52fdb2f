-- What it means that every line's expression is known at the entry before the line's own.
use Rattle.std.specs.Prelude.{ℕ, suc, ◌-◌, List, [], ◌∷◌}
use Rattle.language.specs.Tree.{Expr, Spec}
use Rattle.name_values.specs.Worked.{Worked}
use Rattle.lines.specs.Items.{Item, Passed, Heads, Line}

-- Q of each line's expression and of the entry before the line's own
abbrev pub EachLine : (ℕ → Expr → Type 0) → ℕ → List Item → Type 0
EachLine Q i [] = Unit {0}
EachLine Q i (Passed e ∷ is) = EachLine Q (suc i) is
EachLine Q i (Heads n ∷ is) = EachLine Q (suc i) is
EachLine Q i (Line p e ∷ is) = Q (i - 1) e × EachLine Q (suc i) is

-- a line's expression stands behind all definitions
abbrev pub LineKnown : (x : Spec) (text w refs : List ℕ) → ℕ → Expr → Type 0
LineKnown x text w refs k e = Worked x text w refs x.definitions k e
