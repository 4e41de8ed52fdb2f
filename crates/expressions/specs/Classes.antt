-- The classes of frames, and the numbers by which the stack's slots have them, the code's own. The level at which a bound is read.
use Rattle.std.specs.Prelude.{ℕ, List, [], ◌∷◌, map}

-- what the expression read is
pub data Class : Type 0 where
  -- the right operand; a sole operand; that of `X[n]`; of `F[n:m]`; the rest of a set's elements; the operand of a big operator
  Right Sole Stepped Within Cons Over : Class
  -- in `(..)`; in `|..|`; an index; the end of a range; a set's elements from the second on
  Round Bars Square Last All : Class
  -- the n of `X[n]`; the n and the m of `F[n:m]`
  Count Low High : Class
  -- a set's first element, its second, a further one
  One Two More : Class
  -- the low bound of a big operator's name, its high bound, its set
  Bound Upper Member : Class

-- a class in a slot. The code tells groups of classes apart by the first of each: the lines of `Class`, and `All` alone.
abbrev pub class_number : Class → ℕ
class_number Right = 1
class_number Sole = 2
class_number Stepped = 3
class_number Within = 4
class_number Cons = 5
class_number Over = 6
class_number Round = 7
class_number Bars = 8
class_number Square = 9
class_number Last = 10
class_number All = 11
class_number Count = 12
class_number Low = 13
class_number High = 14
class_number One = 15
class_number Two = 16
class_number More = 17
class_number Bound = 18
class_number Upper = 19
class_number Member = 20

-- all classes in the order of their numbers
abbrev pub classes : List Class
classes = Right ∷ Sole ∷ Stepped ∷ Within ∷ Cons ∷ Over ∷ Round ∷ Bars ∷ Square ∷ Last ∷ All ∷ Count ∷ Low ∷ High ∷ One ∷ Two ∷ More ∷ Bound ∷ Upper ∷ Member ∷ []

-- what the code's constants stand for
abbrev pub class_numbers : List ℕ
class_numbers = map class_number classes
