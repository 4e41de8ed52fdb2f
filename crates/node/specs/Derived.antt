-- Formulas made of a truth value or of another formula (document 01, 'Expansion').
use Rattle.std.specs.Prelude.{ℕ, zero, suc, Bool, true, false}
use Rattle.node.specs.Ltl.{Unary, X, Binary, Formula, True, False, One, Two}

-- 'A comparison of numbers and IN become true or false'
abbrev pub truth : Bool → Formula
truth true = True
truth false = False

-- n times an operator of one operand
abbrev pub repeats : Unary → ℕ → Formula → Formula
repeats x zero a = a
repeats x (suc n) a = One x (repeats x n a)

-- '`X[n]` is n X nodes'
abbrev pub nexts : ℕ → Formula → Formula
nexts = repeats X

-- `a || X(a || ..)` with n + 1 times a, for any two operators
abbrev pub chain_by : Unary → Binary → ℕ → Formula → Formula
chain_by x o zero a = a
chain_by x o (suc n) a = Two o a (One x (chain_by x o n a))

abbrev pub chain : Binary → ℕ → Formula → Formula
chain = chain_by X
