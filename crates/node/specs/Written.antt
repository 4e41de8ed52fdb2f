-- The names of what is written: a formula's nodes, and how many they are. Whoever cites these, and their laws in WrittenLaws, does not see how nodes are laid out.
use Rattle.std.specs.Prelude.{ℕ, List}
use Rattle.node.specs.Ltl.{Formula}
use Rattle.node.specs.Postorder.{size, nodes_from}

-- a formula's nodes, the last of them the formula itself
unfoldable pub nodes_of : Formula → List ℕ
nodes_of f = nodes_from 0 f

unfoldable pub count : Formula → ℕ
count f = size f
