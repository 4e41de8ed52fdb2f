-- Table 1 of document 001: each operator with its names, level, associativity, and what it stands for.
use Rattle.std.specs.Prelude.{ℕ, List, [], ◌∷◌}
use Prim.Native.String.{String}
use Rattle.node.specs.Operators.{Unary, Not, Binary, And, Or, Implies, Iff, U, R, W}

pub data Arithmetic : Type 0 where
  Plus Minus Times Divide Modulo : Arithmetic

pub data Measure : Type 0 where
  Size Min Max : Measure

pub data Combination : Type 0 where
  Cup Cap Without : Combination

pub data Comparison : Type 0 where
  Equal Unequal Less AtMost Greater AtLeast : Comparison

pub data Big : Type 0 where
  BigSum BigProduct BigCap BigCup BigAnd BigOr : Big

-- F[n:m] and G[n:m]
pub data Window : Type 0 where
  FinallyIn GloballyIn : Window

-- what an operator of two operands stands for
pub data Infix : Type 0 where
  Calculates : Arithmetic → Infix
  Combines : Combination → Infix
  Compares : Comparison → Infix
  Membership : Infix
  Connects : Binary → Infix

-- and one of one operand
pub data Prefix : Type 0 where
  Measures : Measure → Prefix
  WidthOf : Prefix
  Applies : Unary → Prefix

-- how an operator before its operand is written: `op e`; `X e` or `X[n] e`; `F e` or `F[n:m] e`; `op[..] e`
pub data Role : Type 0 where
  Plain : Prefix → Role
  Counted : Role
  Windowed : Window → Role
  Folding : Big → Role

pub data Associativity : Type 0 where
  LeftToRight RightToLeft : Associativity

pub record InfixRow : Type 0 where
  pub level : ℕ
  pub names : List String
  pub associativity : Associativity
  pub operator : Infix

abbrev row : ℕ → List String → Associativity → Infix → InfixRow
row n names a o = record { level = n; names = names; associativity = a; operator = o }

-- Table 1's binary operators, save `~` and `:`; GEQ is read like the printed GEG
abbrev pub infixes : List InfixRow
infixes =
    row 2 ("*" ∷ "MUL" ∷ []) LeftToRight (Calculates Times) ∷
    row 3 ("/" ∷ "DIV" ∷ []) RightToLeft (Calculates Divide) ∷
    row 3 ("%" ∷ "MOD" ∷ []) RightToLeft (Calculates Modulo) ∷
    row 4 ("+" ∷ "PLUS" ∷ []) LeftToRight (Calculates Plus) ∷
    row 4 ("-" ∷ "MINUS" ∷ []) LeftToRight (Calculates Minus) ∷
    row 6 ("(\\)" ∷ "(-)" ∷ "SETMINUS" ∷ []) RightToLeft (Combines Without) ∷
    row 7 ("(*)" ∷ "CAP" ∷ []) LeftToRight (Combines Cap) ∷
    row 8 ("(+)" ∷ "CUP" ∷ []) LeftToRight (Combines Cup) ∷
    row 9 ("==" ∷ "EQ" ∷ []) LeftToRight (Compares Equal) ∷
    row 9 ("!=" ∷ "/=" ∷ "NEQ" ∷ []) LeftToRight (Compares Unequal) ∷
    row 9 ("<" ∷ "LE" ∷ []) LeftToRight (Compares Less) ∷
    row 9 ("<=" ∷ "LEQ" ∷ []) LeftToRight (Compares AtMost) ∷
    row 9 (">" ∷ "GE" ∷ []) LeftToRight (Compares Greater) ∷
    row 9 (">=" ∷ "GEG" ∷ "GEQ" ∷ []) LeftToRight (Compares AtLeast) ∷
    row 10 ("IN" ∷ "ELEM" ∷ "<-" ∷ []) LeftToRight Membership ∷
    row 12 ("&&" ∷ "AND" ∷ []) LeftToRight (Connects And) ∷
    row 13 ("||" ∷ "OR" ∷ []) LeftToRight (Connects Or) ∷
    row 14 ("->" ∷ "IMPLIES" ∷ []) RightToLeft (Connects Implies) ∷
    row 14 ("<->" ∷ "EQUIV" ∷ []) RightToLeft (Connects Iff) ∷
    row 15 ("W" ∷ []) RightToLeft (Connects W) ∷
    row 16 ("U" ∷ []) RightToLeft (Connects U) ∷
    row 17 ("R" ∷ []) LeftToRight (Connects R) ∷
    []

pub record PrefixRow : Type 0 where
  pub level : ℕ
  pub names : List String
  pub role : Role

abbrev unary : ℕ → List String → Role → PrefixRow
unary n names r = record { level = n; names = names; role = r }

-- Table 1's unary operators; the bars of |e| are read with the parentheses
abbrev pub prefixes : List PrefixRow
prefixes =
    unary 1 ("+" ∷ "SUM" ∷ []) (Folding BigSum) ∷
    unary 1 ("*" ∷ "PROD" ∷ []) (Folding BigProduct) ∷
    unary 1 ("SIZE" ∷ []) (Plain (Measures Size)) ∷
    unary 1 ("MIN" ∷ []) (Plain (Measures Min)) ∷
    unary 1 ("MAX" ∷ []) (Plain (Measures Max)) ∷
    unary 1 ("SIZEOF" ∷ []) (Plain WidthOf) ∷
    unary 5 ("(*)" ∷ "CAP" ∷ []) (Folding BigCap) ∷
    unary 5 ("(+)" ∷ "CUP" ∷ []) (Folding BigCup) ∷
    unary 11 ("!" ∷ "NOT" ∷ []) (Plain (Applies Not)) ∷
    unary 11 ("X" ∷ []) Counted ∷
    unary 11 ("F" ∷ []) (Windowed FinallyIn) ∷
    unary 11 ("G" ∷ []) (Windowed GloballyIn) ∷
    unary 11 ("&&" ∷ "AND" ∷ "FORALL" ∷ []) (Folding BigAnd) ∷
    unary 11 ("||" ∷ "OR" ∷ "EXISTS" ∷ []) (Folding BigOr) ∷
    []

-- the loosest level
abbrev pub loosest : ℕ
loosest = 17

-- the loosest level of a bound of a big operator's name: 'The bounds .. bind tighter than a comparison'
abbrev pub bound_level : ℕ
bound_level = 8
