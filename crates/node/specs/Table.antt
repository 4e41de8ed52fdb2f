-- The formulas of a table of nodes, and the test of a table against the format (document 01, 'Expansion' and refusal 19). Laws in TableLaws.
use Rattle.std.specs.Prelude.{ℕ, suc, ◌-◌, List, [], ◌∷◌, ◌++◌, Bool, false, ◌&&◌, length, get_or, ltb, leb, eqb}
use Rattle.node.specs.Limits.{max_nodes}
use Rattle.node.specs.Temporal.{Property}
use Rattle.node.specs.Ltl.{Formula, True, Word, Holds}
use Rattle.node.specs.Fields.{kind_of, first_of, second_of}
use Rattle.node.specs.Kinds.{Shape, Truth, Falsehood, Atom, UnaryOf, BinaryOf, Unused, shape_of, build}
use Rattle.node.specs.Result.{Result, Done, guard, Counts}

-- the formula at a number, among those of the nodes read so far
abbrev pub among : List Formula → ℕ → Formula
among fs k = get_or fs k True

-- the formula of a node, after those of the nodes before it
abbrev pub formula_of : List Formula → ℕ → Formula
formula_of fs node = build (shape_of (kind_of node)) (among fs) (first_of node) (second_of node)

-- the formulas of a table's nodes, one after the other
unfoldable pub formulas : List Formula → List ℕ → List Formula
formulas fs [] = fs
formulas fs (node ∷ nodes) = formulas (fs ++ (formula_of fs node ∷ [])) nodes

-- the formula of node i of a table
unfoldable pub tree_at : List ℕ → ℕ → Formula
tree_at nodes i = among (formulas [] nodes) i

-- 'the root is last'
abbrev pub root : List ℕ → Formula
root nodes = tree_at nodes (length nodes - 1)

-- where node i of a table holds
abbrev pub NodeHolds : List ℕ → ℕ → Word → Property
NodeHolds nodes i w t = Holds (tree_at nodes i) w t

-- 'unused fields 0', 'Operands have smaller numbers'; signal numbers lie below `limit`
abbrev pub fits : ℕ → ℕ → Shape → ℕ → ℕ → Bool
fits limit n Truth a b = eqb a 0 && eqb b 0
fits limit n Falsehood a b = eqb a 0 && eqb b 0
fits limit n Atom a b = ltb a limit && eqb b 0
fits limit n (UnaryOf o) a b = ltb a n && eqb b 0
fits limit n (BinaryOf o) a b = ltb a n && ltb b n
fits limit n Unused a b = false

-- may the word stand as node n?
abbrev pub node_fits : ℕ → ℕ → ℕ → Bool
node_fits limit n word = fits limit n (shape_of (kind_of word)) (first_of word) (second_of word)

-- the nodes from number n on: the first against the format is refused at its number
unfoldable pub scanned : {A : Type 0} → ℕ → ℕ → List ℕ → Result A → Result A
scanned limit n [] r = r
scanned limit n (word ∷ words) r = guard (node_fits limit n word) 19 n (scanned limit (suc n) words r)

-- refusal 19: 'no nodes, more than 8,192, or a node against the format', places '0; 8192; node'
unfoldable pub checked : ℕ → List ℕ → Result Counts
checked limit nodes =
    guard (ltb 0 (length nodes)) 19 0
    (guard (leb (length nodes) max_nodes) 19 max_nodes (scanned limit 0 nodes (Done (record { nodes = length nodes; signals = limit }))))
