-- Which operator stands at an entry. All that the machine knows of the kinds of entries and of the numbers of their tokens is said here and in OperatorLaws.
use Rattle.std.specs.Prelude.{ℕ, Bool, ◌≡◌}
use Rattle.language.specs.Operators.{Infix, Prefix, Big, Window, Windowed}
use Rattle.entries.specs.Kinds as Kind
use Rattle.operators.specs.Codes.{infix_code, prefix_code, big_code, role_code}
use Rattle.operators.specs.Signs.{strict_at}
use Rattle.operators.specs.Tables.{infix_code_at, prefix_code_at}
use Rattle.operands.specs.Entries.{kind_at, place_at, number_at}
use Rattle.operands.specs.Working.{Source}

-- the operators, by how many operands they have and where these stand; a name's use is one too
pub data Operator : Type 0 where
  Before : Prefix → Operator
  Between : Infix → Operator
  Bounds : (afterLow beforeHigh : Bool) → Operator
  Stepping : Operator
  Folds : Big → Operator
  Bit : Operator
  Repeating : Operator
  Within : Window → Operator
  Using : Operator

abbrev pub kind_of : Operator → ℕ
kind_of (Before o) = Kind.before o
kind_of (Between o) = Kind.joining o
kind_of (Bounds l h) = Kind.between h
kind_of Stepping = Kind.range
kind_of (Folds o) = Kind.big o
kind_of Bit = Kind.index
kind_of Repeating = Kind.nexts
kind_of (Within o) = Kind.window
kind_of Using = Kind.named

-- what the number n of its token says: the operator's code among those of its kind; of bounds, whether the low end is left out
abbrev pub Spelt : ℕ → Operator → Type 0
Spelt n (Before o) = prefix_code_at n ≡ prefix_code o
Spelt n (Between o) = infix_code_at n ≡ infix_code o
Spelt n (Bounds l h) = l ≡ strict_at n
Spelt n Stepping = Unit {0}
Spelt n (Folds o) = prefix_code_at n ≡ big_code o
Spelt n Bit = Unit {0}
Spelt n Repeating = Unit {0}
Spelt n (Within o) = prefix_code_at n ≡ role_code (Windowed o)
Spelt n Using = Unit {0}

pub record OpAt (s : Source) (k : ℕ) (o : Operator) (p : ℕ) : Type 0 where
  pub kind : kind_at s.work k ≡ kind_of o
  pub place : place_at s.work k ≡ p
  pub spelt : Spelt (number_at s.work k) o
