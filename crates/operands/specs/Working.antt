-- What is lent to the machine and changed by nobody, and what an answer says of a number.
use Rattle.std.specs.Prelude.{ℕ, ◌≤◌, List, ◌≡◌, Ok, Err}
use Rattle.node.specs.Result.{Result, ◌>>=◌}
use Rattle.node.specs.Returned.{Returned}
use Rattle.language.specs.Limits.{max_number}
use Rattle.language.specs.Values.{Value, number}
use Rattle.sets.specs.Answers.{says}
use Rattle.operands.specs.declared.Source.{Source as Lent}

-- the text, the work buffer with tokens and entries, the references of crate names
pub record Source : Type 0 where
  pub text : List ℕ
  pub work : List ℕ
  pub refs : List ℕ

abbrev pub source : List ℕ → List ℕ → List ℕ → Source
source text work refs = record { text = text; work = work; refs = refs }

-- what is lent, as the steps' contracts speak of it
abbrev pub view : Lent → Source
view s = source s.text.now s.work.now s.refs.now

abbrev pub small : Returned ℕ → Type 0
small (Ok n) = n ≤ max_number
small (Err r) = Unit {0}

-- the value as a number
pub record TellsNumber (r : Returned ℕ) (v : Result Value) : Type 0 where
  pub says : says r ≡ (v >>= number)
  pub small : small r
