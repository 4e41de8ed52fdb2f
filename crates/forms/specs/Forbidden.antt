-- What a form rules out, counted over a table's nodes: 'It forbids the nodes that its description above rules out' (document 01, 'Forms').
-- Laws in ForbiddenLaws.
use Rattle.std.specs.Prelude.{ℕ, zero, suc, ◌+◌, List, [], ◌∷◌, Bool, true, false, cond, get_or}
use Rattle.node.specs.Ltl.{Not, X, G, F, And, Or, Implies, Iff, U, R, W}
use Rattle.node.specs.Fields.{kind_of, first_of}
use Rattle.node.specs.Kinds.{Shape, Truth, Falsehood, Atom, UnaryOf, BinaryOf, Unused, shape_of}

-- 'negation form: `!` only on signals': is the operand anything else?
abbrev pub not_signal : Shape → Bool
not_signal Truth = true
not_signal Falsehood = true
not_signal Atom = false
not_signal (UnaryOf o) = true
not_signal (BinaryOf o) = true
not_signal Unused = true

-- '`!` only on signals, no `->`, no `<->`'
abbrev pub outside_negation : Shape → Shape → Bool
outside_negation Truth operand = false
outside_negation Falsehood operand = false
outside_negation Atom operand = false
outside_negation (UnaryOf Not) operand = not_signal operand
outside_negation (UnaryOf X) operand = false
outside_negation (UnaryOf G) operand = false
outside_negation (UnaryOf F) operand = false
outside_negation (BinaryOf And) operand = false
outside_negation (BinaryOf Or) operand = false
outside_negation (BinaryOf Implies) operand = true
outside_negation (BinaryOf Iff) operand = true
outside_negation (BinaryOf U) operand = false
outside_negation (BinaryOf R) operand = false
outside_negation (BinaryOf W) operand = false
outside_negation Unused operand = false

-- 'core form: only true, signal, `!`, `||`, X, U'
abbrev pub outside_core : Shape → Bool
outside_core Truth = false
outside_core Falsehood = true
outside_core Atom = false
outside_core (UnaryOf Not) = false
outside_core (UnaryOf X) = false
outside_core (UnaryOf G) = true
outside_core (UnaryOf F) = true
outside_core (BinaryOf And) = true
outside_core (BinaryOf Or) = false
outside_core (BinaryOf Implies) = true
outside_core (BinaryOf Iff) = true
outside_core (BinaryOf U) = false
outside_core (BinaryOf R) = true
outside_core (BinaryOf W) = true
outside_core Unused = true

-- does the form rule out a node of this shape, its first operand being of that shape?
abbrev pub forbids : ℕ → Shape → Shape → Bool
forbids zero shape operand = false
forbids (suc zero) shape operand = outside_negation shape operand
forbids (suc (suc n)) shape operand = outside_core shape

-- the shape of node i of a table
abbrev pub shape_at : List ℕ → ℕ → Shape
shape_at nodes i = shape_of (kind_of (get_or nodes i 0))

-- does the form rule out this word as a node of the table?
abbrev pub forbids_word : ℕ → List ℕ → ℕ → Bool
forbids_word form nodes word = forbids form (shape_of (kind_of word)) (shape_at nodes (first_of word))

-- how many of the words pass the test
unfoldable pub tally : (ℕ → Bool) → List ℕ → ℕ
tally test [] = 0
tally test (word ∷ words) = cond (test word) 1 0 + tally test words

-- how many nodes of the table the form rules out
abbrev pub forbidden : ℕ → List ℕ → ℕ
forbidden form nodes = tally (forbids_word form nodes) nodes
