-- The kinds of nodes by their numbers, and what each says of its fields (document 01, 'Expansion').
use Rattle.std.specs.Prelude.{ℕ, Bool, ◌&&◌, ◌||◌, List, [], ◌∷◌, ltb, length, get_or}
use Rattle.node.specs.Ltl.{Unary, Not, X, G, F, Binary, And, Or, Implies, Iff, U, R, W, Formula, True, False, Signal, One, Two}

-- what a kind makes of its fields: nothing, a signal's number, one operand, two; or no kind
pub data Shape : Type 0 where
  Truth Falsehood Atom : Shape
  UnaryOf : Unary → Shape
  BinaryOf : Binary → Shape
  Unused : Shape

-- 'Kinds: 0 true, 1 false, 2 signal, 3 `!`, 4 `&&`, 5 `||`, 6 `->`, 7 `<->`, 8 X, 9 G, 10 F, 11 U, 12 R, 13 W'
abbrev pub shapes : List Shape
shapes =
    Truth ∷ Falsehood ∷ Atom ∷ UnaryOf Not ∷ BinaryOf And ∷ BinaryOf Or ∷ BinaryOf Implies ∷ BinaryOf Iff ∷ UnaryOf X ∷ UnaryOf G ∷ UnaryOf F ∷ BinaryOf U ∷ BinaryOf R ∷ BinaryOf W ∷ []

abbrev pub shape_of : ℕ → Shape
shape_of kind = get_or shapes kind Unused

-- how many kinds there are
abbrev pub kind_count : ℕ
kind_count = length shapes

-- the kind of a node that is true
abbrev pub true_kind : ℕ
true_kind = 0

-- the kind of one that is false
abbrev pub false_kind : ℕ
false_kind = 1

-- the kind of a signal's node
abbrev pub signal_kind : ℕ
signal_kind = 2

-- the kinds of the operators
abbrev pub unary_kind : Unary → ℕ
unary_kind Not = 3
unary_kind X = 8
unary_kind G = 9
unary_kind F = 10

abbrev pub binary_kind : Binary → ℕ
binary_kind And = 4
binary_kind Or = 5
binary_kind Implies = 6
binary_kind Iff = 7
binary_kind U = 11
binary_kind R = 12
binary_kind W = 13

-- the kinds in their order: true, false, signal, then the operators
abbrev pub kinds : List ℕ
kinds =
    true_kind ∷ false_kind ∷ signal_kind ∷ unary_kind Not ∷ binary_kind And ∷ binary_kind Or ∷ binary_kind Implies ∷ binary_kind Iff ∷ unary_kind X ∷ unary_kind G ∷ unary_kind F ∷ binary_kind U ∷ binary_kind R ∷ binary_kind W ∷ []

-- does a kind have two operands? `&&`, `||`, `->` and `<->` stand between `!` and X, and U, R and W behind F
abbrev pub has_two : ℕ → Bool
has_two kind = (ltb (unary_kind Not) kind && ltb kind (unary_kind X)) || ltb (unary_kind F) kind

-- the formula of a node with operands a and b, where `tree` gives the operands' formulas
abbrev pub build : Shape → (ℕ → Formula) → ℕ → ℕ → Formula
build Truth tree a b = True
build Falsehood tree a b = False
build Atom tree a b = Signal a
build (UnaryOf o) tree a b = One o (tree a)
build (BinaryOf o) tree a b = Two o (tree a) (tree b)
build Unused tree a b = True
