-- Formulas whose nodes are worked out: those that document 02 and its readings name, and one for each way in which a definition could slip.
use Rattle.std.specs.Prelude.{ℕ, zero, suc, ◌≡◌, refl, [], ◌∷◌}
use Rattle.node.specs.Ltl.{Not, X, G, F, And, Or, Implies, Iff, W, Formula, True, False, Signal, One, Two}
use Rattle.node.specs.Fields.{pack}
use Rattle.forms.specs.Forms.{plain, negated}
use Rattle.sharing.specs.Sharing.{position, having, write, distinct_nodes, distinct_count}
use Rattle.sharing.specs.Subformulas.{postorder}
use Rattle.sharing.proofs.Once.{same, occurs, further, once}

abbrev a : Formula
a = Signal 0

abbrev b : Formula
b = Signal 1

-- a node for each kind of leaf
leaves : distinct_nodes (Two Or (Two Or True False) (Signal 3)) ≡ pack 0 0 0 ∷ pack 1 0 0 ∷ pack 5 0 1 ∷ pack 2 3 0 ∷ pack 5 2 3 ∷ []
unfolding position having write distinct_nodes
leaves = refl

-- left operand first
left-first : distinct_nodes (Two And a b) ≡ pack 2 0 0 ∷ pack 2 1 0 ∷ pack 4 0 1 ∷ []
unfolding position having write distinct_nodes
left-first = refl

-- the right operand stands in the left one, and the left one in the right one
stands_in_left : distinct_nodes (Two And (One X a) a) ≡ pack 2 0 0 ∷ pack 8 0 0 ∷ pack 4 1 0 ∷ []
unfolding position having write distinct_nodes
stands_in_left = refl

stands_in_right : distinct_nodes (Two And a (One X a)) ≡ pack 2 0 0 ∷ pack 8 0 0 ∷ pack 4 0 1 ∷ []
unfolding position having write distinct_nodes
stands_in_right = refl

-- `a && a` is two nodes
twice : distinct_nodes (Two And a a) ≡ pack 2 0 0 ∷ pack 4 0 0 ∷ []
unfolding position having write distinct_nodes
twice = refl

-- `F[0:2] a`, as it is expanded
window : distinct_nodes (Two Or a (One X (Two Or a (One X a)))) ≡ pack 2 0 0 ∷ pack 8 0 0 ∷ pack 5 0 1 ∷ pack 8 2 0 ∷ pack 5 0 3 ∷ []
unfolding position having write distinct_nodes
window = refl

-- equal is the same tree: `a && b` and `b && a` are two nodes, `! ! a` stays
commuted : distinct_nodes (Two Or (Two And a b) (Two And b a)) ≡ pack 2 0 0 ∷ pack 2 1 0 ∷ pack 4 0 1 ∷ pack 4 1 0 ∷ pack 5 2 3 ∷ []
unfolding position having write distinct_nodes
commuted = refl

not-not : distinct_nodes (One Not (One Not a)) ≡ pack 2 0 0 ∷ pack 3 0 0 ∷ pack 3 1 0 ∷ []
unfolding position having write distinct_nodes
not-not = refl

-- another operator over the same operands is another node
operators : distinct_nodes (Two Implies (Two And a b) (Two Or a b)) ≡ pack 2 0 0 ∷ pack 2 1 0 ∷ pack 4 0 1 ∷ pack 5 0 1 ∷ pack 6 2 3 ∷ []
unfolding position having write distinct_nodes
operators = refl

-- a table with equal nodes has a formula at the first of them; a new node goes behind what stands there
first_of_equal : write (pack 2 0 0 ∷ pack 2 1 0 ∷ pack 2 1 0 ∷ []) b ≡ record { table = pack 2 0 0 ∷ pack 2 1 0 ∷ pack 2 1 0 ∷ []; number = 1 }
unfolding position having write
first_of_equal = refl

behind : write (pack 2 1 0 ∷ []) (Two And a b) ≡ record { table = pack 2 1 0 ∷ pack 2 0 0 ∷ pack 4 1 0 ∷ []; number = 2 }
unfolding position having write
behind = refl

-- the formulas of a text in which nothing but GUARANTEE is written (document 01, 'Expansion'), standard and strict
abbrev standard : Formula → Formula
standard u = Two Implies True (Two And True (Two Implies (Two And (One G True) True) (Two And (One G True) u)))

abbrev strict : Formula → Formula
strict u = Two Implies True (Two And (Two And True (Two W True (One Not True))) (Two Implies (Two And (One G True) True) u))

-- '6 standard and 9 strict for the text with no lines'
no_lines : distinct_nodes (standard True) ≡ pack 0 0 0 ∷ pack 9 0 0 ∷ pack 4 1 0 ∷ pack 6 2 2 ∷ pack 4 0 3 ∷ pack 6 0 4 ∷ []
unfolding position having write distinct_nodes
no_lines = refl

no_lines-strict : distinct_nodes (strict True)
    ≡ pack 0 0 0 ∷ pack 3 0 0 ∷ pack 13 0 1 ∷ pack 4 0 2 ∷ pack 9 0 0 ∷ pack 4 4 0 ∷ pack 6 5 0 ∷ pack 4 3 6 ∷ pack 6 0 7 ∷ []
unfolding position having write distinct_nodes
no_lines-strict = refl

-- '12 nodes for its file'
file : distinct_nodes (standard (One G (Two Implies (Signal 0) (One F (Signal 1)))))
    ≡ pack 0 0 0 ∷ pack 9 0 0 ∷ pack 4 1 0 ∷ pack 2 0 0 ∷ pack 2 1 0 ∷ pack 10 4 0 ∷ pack 6 3 5 ∷ pack 9 6 0 ∷ pack 4 1 7 ∷ pack 6 2 8 ∷ pack 4 0 9 ∷ pack 6 0 10 ∷ []
unfolding position having write distinct_nodes
file = refl

-- the bound is close: of `a <-> a <-> ..`, nested to the left, 5 times the nodes would be too few
nested : ℕ → Formula
nested zero = a
nested (suc n) = Two Iff (nested n) a

nested-nodes : distinct_count (nested 7) ≡ 8
unfolding position having write distinct_nodes distinct_count nested
nested-nodes = refl

nested_negation : distinct_count (plain (nested 7)) ≡ 41
unfolding position having write distinct_nodes distinct_count nested plain negated
nested_negation = refl

-- postorder, and each member at its first place
all-places : postorder (Two Implies (Two And a b) a) ≡ a ∷ b ∷ Two And a b ∷ a ∷ Two Implies (Two And a b) a ∷ []
unfolding postorder
all-places = refl

first-places_only : once (b ∷ a ∷ One X a ∷ b ∷ One Not a ∷ One X b ∷ a ∷ One X a ∷ []) ≡ b ∷ a ∷ One X a ∷ One Not a ∷ One X b ∷ []
unfolding same occurs further
first-places_only = refl

all_kinds : once (True ∷ False ∷ True ∷ Two And a b ∷ Two Or a b ∷ Two And b a ∷ Two And a a ∷ Two And a b ∷ []) ≡ True ∷ False ∷ Two And a b ∷ Two Or a b ∷ Two And b a ∷ Two And a a ∷ []
unfolding same occurs further
all_kinds = refl
