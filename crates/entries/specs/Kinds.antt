-- The kinds of the entries that hold a text's tree: numbers of six bits, the code's own. Operators of one group have one kind; which of them stands there is told by
-- the entry's token (crate operators). Numbers that are not named here are free.
use Rattle.std.specs.Prelude.{ℕ, ◌^◌, Bool, true, false, List, [], ◌∷◌}
use Rattle.language.specs.Operators.{
  Comparison,
  Equal,
  Unequal,
  Less,
  AtMost,
  Greater,
  AtLeast,
  Big,
  BigSum,
  BigProduct,
  BigCap,
  BigCup,
  BigAnd,
  BigOr,
  Infix,
  Calculates,
  Combines,
  Compares,
  Membership,
  Connects,
  Prefix,
  Measures,
  WidthOf,
  Applies,
}

-- the bits of a kind: what an entry's word leaves beside two fields of 13 (specs/Stored)
abbrev pub kind_bits : ℕ
kind_bits = 6

-- how many numbers there are for kinds
abbrev pub limit : ℕ
limit = 2 ^ kind_bits

-- leaves, an index and a parenthesis
abbrev pub named : ℕ
named = 0

abbrev pub numeral : ℕ
numeral = 1

abbrev pub truth : ℕ
truth = 2

abbrev pub index : ℕ
index = 4

abbrev pub paren : ℕ
paren = 5

-- operators before their operand: of sets, of a bus, of formulas
abbrev pub measure : ℕ
measure = 6

abbrev pub width : ℕ
width = 9

abbrev pub unary : ℕ
unary = 10

abbrev pub before : Prefix → ℕ
before (Measures m) = measure
before WidthOf = width
before (Applies o) = unary

-- operators between two operands: of numbers, of sets, comparisons of anything and of numbers alone, IN, of formulas
abbrev pub arithmetic : ℕ
arithmetic = 14

abbrev pub combination : ℕ
combination = 19

abbrev pub equality : ℕ
equality = 22

abbrev pub order : ℕ
order = 24

abbrev pub comparison : Comparison → ℕ
comparison Equal = equality
comparison Unequal = equality
comparison Less = order
comparison AtMost = order
comparison Greater = order
comparison AtLeast = order

abbrev pub membership : ℕ
membership = 28

abbrev pub binary : ℕ
binary = 29

abbrev pub joining : Infix → ℕ
joining (Calculates o) = arithmetic
joining (Combines o) = combination
joining (Compares o) = comparison o
joining Membership = membership
joining (Connects o) = binary

-- `X[n]`; `F[n:m]` and `G[n:m]`
abbrev pub nexts : ℕ
nexts = 36

abbrev pub window : ℕ
window = 37

-- big operators of numbers, of sets, of formulas; the names that they bind, the first one and further ones
abbrev pub big_numbers : ℕ
big_numbers = 39

abbrev pub big_sets : ℕ
big_sets = 41

abbrev pub big_formulas : ℕ
big_formulas = 43

abbrev pub big : Big → ℕ
big BigSum = big_numbers
big BigProduct = big_numbers
big BigCap = big_sets
big BigCup = big_sets
big BigAnd = big_formulas
big BigOr = big_formulas

abbrev pub binder : Bool → ℕ
binder false = 45
binder true = 46

-- bounds, by whether the high end is left out; the low end's sign is the entry's token
abbrev pub between : Bool → ℕ
between false = 47
between true = 48

-- sets
abbrev pub listed : ℕ
listed = 51

abbrev pub element : ℕ
element = 52

abbrev pub range : ℕ
range = 53

-- lines
abbrev pub parameter : ℕ
parameter = 54

abbrev pub definition : ℕ
definition = 55

abbrev pub enumeration : ℕ
enumeration = 56

abbrev pub identifier : ℕ
identifier = 57

abbrev pub word : ℕ
word = 58

abbrev pub signal : ℕ
signal = 59

abbrev pub bus : ℕ
bus = 60

abbrev pub typed : ℕ
typed = 61

abbrev pub line : ℕ
line = 62

-- a subsection of MAIN, before its lines
abbrev pub heading : ℕ
heading = 63

-- all kinds in their order, and their limit
abbrev pub kinds : List ℕ
kinds =
    named ∷ numeral ∷ truth ∷ index ∷ paren ∷ measure ∷ width ∷ unary ∷ arithmetic ∷ combination ∷ equality ∷ order ∷ membership ∷ binary ∷ nexts ∷ window ∷
    big_numbers ∷ big_sets ∷ big_formulas ∷ binder false ∷ binder true ∷ between false ∷ between true ∷
    listed ∷ element ∷ range ∷ parameter ∷ definition ∷ enumeration ∷ identifier ∷ word ∷ signal ∷ bus ∷ typed ∷ line ∷ heading ∷ limit ∷ []
