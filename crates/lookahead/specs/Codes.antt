-- Spans as the code keeps them, as numbers of which the wider is the larger. Laws in CodeLaws.
use Rattle.std.specs.Prelude.{ℕ, ◌+◌, ◌-◌, ◌≤◌, ◌<◌, max, ◌≡◌, List, cond, ltb, leb, eqb, length, get_or}
use Rattle.node.specs.Limits.{max_nodes}
use Rattle.node.specs.Ltl.{Not, X, F}
use Rattle.node.specs.Kinds.{unary_kind, signal_kind}
use Rattle.node.specs.Fields.{kind_of, first_of, second_of}
use Rattle.node.specs.Result.{Result, Done}
use Rattle.node.specs.Table.{tree_at}
use Rattle.lookahead.specs.Span.{Span, Silent, Ahead, Endless, span}
use Rattle.lookahead.specs.Reaching.{Distance, Letters, Unbounded}

-- below it a number says that there is no signal
abbrev pub here : ℕ
here = 16_384

-- from it on a number says that there is no bound
abbrev pub endless : ℕ
endless = 32_768

-- a number that node n may have for a span: X adds one to every number
abbrev pub Coded : ℕ → ℕ → Span → Type 0
Coded n s Silent = s ≤ n
Coded n s (Ahead k) = s ≡ here + k
Coded n s Endless = (endless ≤ s) × (s ≤ endless + n)

abbrev pub forever_code : ℕ → ℕ
forever_code s = cond (ltb s here) s endless

-- an operator other than X and !
abbrev pub joined_code : ℕ → ℕ → ℕ → ℕ
joined_code kind a b = cond (ltb kind (unary_kind X)) (max a b) (cond (leb kind (unary_kind F)) (forever_code a) (forever_code (max a b)))

-- the number of a node of a kind, from those of its operands
abbrev pub code_of : ℕ → ℕ → ℕ → ℕ
code_of kind a b =
    cond (ltb kind signal_kind) 0 (cond (ltb kind (unary_kind Not)) here (cond (eqb kind (unary_kind X)) (a + 1) (cond (eqb kind (unary_kind Not)) a (joined_code kind a b))))

-- a node's number, from those of the nodes before it
abbrev pub node_code : ℕ → (ℕ → ℕ) → ℕ
node_code word at = code_of (kind_of word) (at (first_of word)) (at (second_of word))

-- so many nodes, the first, have their numbers in a byte each, the others in two
abbrev pub near_count : ℕ
near_count = 254

abbrev pub far_count : ℕ
far_count = max_nodes - near_count

abbrev pub near_endless : ℕ
near_endless = 255

abbrev pub narrow_code : ℕ → ℕ
narrow_code s = cond (ltb s here) 0 (cond (leb endless s) near_endless (s - here + 1))

abbrev pub widened : ℕ → ℕ
widened b = cond (eqb b 0) 0 (cond (eqb b near_endless) endless (b + (here - 1)))

-- the number that is kept for node i
abbrev pub number_at : List ℕ → List ℕ → ℕ → ℕ
number_at bytes words i = cond (leb near_count i) (get_or words (i - near_count) 0) (widened (get_or bytes i 0))

abbrev pub Sized : List ℕ → List ℕ → Type 0
Sized bytes words = (length bytes ≡ near_count) × (length words ≡ far_count)

-- a number that a node of the first ones can have
abbrev pub Narrow : ℕ → Type 0
Narrow s = s < endless → s < here + near_count

-- the operands of a node lie in a table, with room for one letter more
abbrev pub InTable : ℕ → (ℕ → ℕ) → Type 0
InTable word at = unary_kind Not ≤ kind_of word → (first_of word < max_nodes) × (second_of word < max_nodes) × (at (first_of word) ≤ endless + max_nodes)

-- the reach that a number stands for
abbrev pub told_code : ℕ → Result Distance
told_code s = Done (cond (leb endless s) Unbounded (Letters (s - here)))

-- the numbers of the first nodes of a table
pub record Spanned (nodes : List ℕ) (count : ℕ) (bytes words : List ℕ) : Type 0 where
  pub sized : Sized bytes words
  pub right : (j : ℕ) → j < count → Coded j (number_at bytes words j) (span (tree_at nodes j))
