-- How the code groups the operators: the value at one position for those that look no further, step and seed for those that go round the loop.
use Rattle.std.specs.Prelude.{ℕ, Bool, true, false, not, ◌&&◌, ◌||◌}
use Rattle.std.specs.Bool.{beq}
use Rattle.node.specs.Ltl.{Unary, Not, X, G, F, Binary, And, Or, Implies, Iff, U, R, W}
use Rattle.node.specs.Kinds.{Shape, Truth, Falsehood, Atom, UnaryOf, BinaryOf, Unused}
use Rattle.bits.specs.Bits.{Values}
use Rattle.rows.specs.Row.{around}

-- the value of a temporal operator from its operands' values and its own value one position later
abbrev pub step_unary : Unary → Bool → Bool → Bool
step_unary Not a v = v
step_unary X a v = v
step_unary G a v = a && v
step_unary F a v = a || v

abbrev pub step_binary : Binary → Bool → Bool → Bool → Bool
step_binary And a b v = v
step_binary Or a b v = v
step_binary Implies a b v = v
step_binary Iff a b v = v
step_binary U a b v = b || (a && v)
step_binary R a b v = b && (a || v)
step_binary W a b v = b || (a && v)

abbrev pub step_of : Shape → Bool → Bool → Bool → Bool
step_of Truth a b v = v
step_of Falsehood a b v = v
step_of Atom a b v = v
step_of (UnaryOf o) a b v = step_unary o a v
step_of (BinaryOf o) a b v = step_binary o a b v
step_of Unused a b v = v

-- the value of an operator that looks at one position, from its operands' values there
abbrev pub pair_unary : Unary → Bool → Bool
pair_unary Not a = not a
pair_unary X a = true
pair_unary G a = true
pair_unary F a = true

abbrev pub pair_binary : Binary → Bool → Bool → Bool
pair_binary And a b = a && b
pair_binary Or a b = a || b
pair_binary Implies a b = not a || b
pair_binary Iff a b = beq a b
pair_binary U a b = true
pair_binary R a b = true
pair_binary W a b = true

abbrev pub pair_of : Shape → Bool → Bool → Bool
pair_of Truth a b = true
pair_of Falsehood a b = true
pair_of Atom a b = true
pair_of (UnaryOf o) a b = pair_unary o a
pair_of (BinaryOf o) a b = pair_binary o a b
pair_of Unused a b = true

-- its value where the loop goes round for ever with nothing decided
abbrev pub seed_unary : Unary → Bool
seed_unary Not = true
seed_unary X = true
seed_unary G = true
seed_unary F = false

abbrev pub seed_binary : Binary → Bool
seed_binary And = true
seed_binary Or = true
seed_binary Implies = true
seed_binary Iff = true
seed_binary U = false
seed_binary R = true
seed_binary W = true

abbrev pub seed_of : Shape → Bool
seed_of Truth = true
seed_of Falsehood = true
seed_of Atom = true
seed_of (UnaryOf o) = seed_unary o
seed_of (BinaryOf o) = seed_binary o
seed_of Unused = true

abbrev pub loop_of : ℕ → ℕ → Shape → Values → Values → Values
loop_of n l s a b p = around n l (seed_of s) (λ q v. step_of s (a q) (b q) v) p
