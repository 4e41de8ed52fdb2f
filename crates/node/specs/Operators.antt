-- The operators of LTL, and what each makes of properties of positions (document 001, Appendix A.1). No formula is built here, so that the source's own
-- meaning can be written with the same operators.
use Rattle.std.specs.Prelude.{ℕ, suc, Bool, ◌↔◌}
use Rattle.node.specs.Logic.{Either}
use Rattle.node.specs.Temporal.{Property, Always, Eventually, Until, Release, WeakUntil}

-- `!` and the temporal operators of one operand
pub data Unary : Type 0 where
  Not X G F : Unary

-- `&&`, `||`, `->`, `<->` and the temporal operators of two operands
pub data Binary : Type 0 where
  And Or Implies Iff U R W : Binary

-- the operators, on properties of positions
abbrev pub UnaryMeans : Unary → Property → Property
UnaryMeans Not P t = ¬ P t
UnaryMeans X P t = P (suc t)
UnaryMeans G P t = Always P t
UnaryMeans F P t = Eventually P t

abbrev pub BinaryMeans : Binary → Property → Property → Property
BinaryMeans And P Q t = P t × Q t
BinaryMeans Or P Q t = Either (P t) (Q t)
BinaryMeans Implies P Q t = P t → Q t
BinaryMeans Iff P Q t = P t ↔ Q t
BinaryMeans U P Q t = Until P Q t
BinaryMeans R P Q t = Release P Q t
BinaryMeans W P Q t = WeakUntil P Q t

-- an infinite word: is signal k present at position t?
abbrev pub Word : Type 0
Word = ℕ → ℕ → Bool
