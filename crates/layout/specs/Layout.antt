-- A formula's text as it is written: each token with the blank after it, piece by piece before, between and after a node's operands.
use Rattle.std.specs.Prelude.{ℕ, zero, suc, ◌+◌, List, [], ◌∷◌, ◌++◌, length, get_or}
use Rattle.node.specs.Ltl.{Binary, Formula, True, False, Signal, One, Two}
use Rattle.node.specs.Kinds.{Shape, Truth, Falsehood, Atom, UnaryOf, BinaryOf, Unused}
use Rattle.language.specs.Bytes.{ascii}
use Rattle.basic.specs.Basic.{unary_sign, binary_sign}

-- a signal's name stands between its first two pieces
abbrev pub piece : Shape → ℕ → List ℕ
piece Truth zero = ascii "( true ) "
piece Truth (suc k) = []
piece Falsehood zero = ascii "( false ) "
piece Falsehood (suc k) = []
piece Atom zero = ascii "( "
piece Atom (suc zero) = ascii " ) "
piece Atom (suc (suc k)) = []
piece (UnaryOf o) zero = ascii "( " ++ (ascii (unary_sign o) ++ (32 ∷ []))
piece (UnaryOf o) (suc zero) = ascii ") "
piece (UnaryOf o) (suc (suc k)) = []
piece (BinaryOf o) zero = ascii "( "
piece (BinaryOf o) (suc zero) = ascii (binary_sign o) ++ (32 ∷ [])
piece (BinaryOf o) (suc (suc zero)) = ascii ") "
piece (BinaryOf o) (suc (suc (suc k))) = []
piece Unused k = []

-- how many operands a node has
abbrev pub operands : Shape → ℕ
operands Truth = 0
operands Falsehood = 0
operands Atom = 0
operands (UnaryOf o) = 1
operands (BinaryOf o) = 2
operands Unused = 0

-- the text of a formula, `name` giving the signals' names
unfoldable pub layout : (name : ℕ → List ℕ) → Formula → List ℕ
layout name True = ascii "( true ) "
layout name False = ascii "( false ) "
layout name (Signal k) = ascii "( " ++ (name k ++ ascii " ) ")
layout name (One o a) = piece (UnaryOf o) 0 ++ (layout name a ++ ascii ") ")
layout name (Two o a b) = ascii "( " ++ (layout name a ++ (piece (BinaryOf o) 1 ++ (layout name b ++ ascii ") ")))

-- what is left of it after the first operand of two, and after the second
abbrev pub left_of_two : (name : ℕ → List ℕ) → ℕ → Binary → Formula → List ℕ
left_of_two name zero o b = piece (BinaryOf o) 1 ++ (layout name b ++ ascii ") ")
left_of_two name (suc k) o b = ascii ") "

-- what is left of it after k operands
unfoldable pub left : (name : ℕ → List ℕ) → ℕ → Formula → List ℕ
left name zero f = layout name f
left name (suc k) True = []
left name (suc k) False = []
left name (suc k) (Signal n) = []
left name (suc k) (One o a) = ascii ") "
left name (suc k) (Two o a b) = left_of_two name k o b

-- the piece after k operands; a signal's whole text
abbrev pub piece_of : (name : ℕ → List ℕ) → Shape → ℕ → ℕ → List ℕ
piece_of name Truth k a = piece Truth k
piece_of name Falsehood k a = piece Falsehood k
piece_of name Atom k a = ascii "( " ++ (name a ++ ascii " ) ")
piece_of name (UnaryOf o) k a = piece (UnaryOf o) k
piece_of name (BinaryOf o) k a = piece (BinaryOf o) k
piece_of name Unused k a = []

-- sizes, by the signals' and the operands'
abbrev pub nth : List ℕ → ℕ → ℕ
nth l i = get_or l i 0

abbrev pub sized : Shape → (size : ℕ → ℕ) → (operand : ℕ → ℕ) → ℕ → ℕ → ℕ
sized Truth size operand a b = 9
sized Falsehood size operand a b = 10
sized Atom size operand a b = 5 + size a
sized (UnaryOf o) size operand a b = length (piece (UnaryOf o) 0) + 2 + operand a
sized (BinaryOf o) size operand a b = 4 + length (piece (BinaryOf o) 1) + operand a + operand b
sized Unused size operand a b = 0

unfoldable pub weight : (size : ℕ → ℕ) → Formula → ℕ
weight size True = 9
weight size False = 10
weight size (Signal k) = 5 + size k
weight size (One o a) = length (piece (UnaryOf o) 0) + 2 + weight size a
weight size (Two o a b) = 4 + length (piece (BinaryOf o) 1) + weight size a + weight size b
