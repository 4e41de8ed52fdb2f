-- What the machine works out, and what comes of it: a value of the language, or the formula of an expression.
use Rattle.std.specs.Prelude.{ℕ, List}
use Rattle.node.specs.Ltl.{Formula}
use Rattle.node.specs.Result.{Result, Done, ◌>>=◌}
use Rattle.language.specs.Tree.{Expr}
use Rattle.language.specs.Values.{Value, misfit, number, set, value}
use Rattle.language.specs.Expansion.{Context, expansion}

pub data Aim : Type 0 where
  Evaluate Expand : Aim

pub data Came : Type 0 where
  Worth : Value → Came
  Nodes : Formula → Came

abbrev pub worth : Value → Result Came
worth v = Done (Worth v)

abbrev pub nodes : Formula → Result Came
nodes f = Done (Nodes f)

-- an expression worked out with one of the two aims
abbrev pub works : Aim → Context → Expr → Result Came
works Evaluate c e = value c.values e >>= worth
works Expand c e = expansion c e >>= nodes

-- what has come, taken as a value, a number, a set, a formula
abbrev pub as_value : Came → Result Value
as_value (Worth v) = Done v
as_value (Nodes f) = misfit

abbrev pub as_number : Came → Result ℕ
as_number (Worth v) = number v
as_number (Nodes f) = misfit

abbrev pub as_set : Came → Result (List ℕ)
as_set (Worth v) = set v
as_set (Nodes f) = misfit

abbrev pub as_formula : Came → Result Formula
as_formula (Worth v) = misfit
as_formula (Nodes f) = Done f
