-- Laws of a formula's nodes: how many, their root, and that they are a table of the format.
use Rattle.std.specs.Prelude.{ℕ, ◌-◌, ◌<◌, ◌≤◌, ◌≡◌, refl, List, ◌++◌, length}
use Rattle.std.proofs.Common.{arith}
use Rattle.node.specs.Limits.{max_nodes, field_limit}
use Rattle.node.specs.Ltl.{Formula}
use Rattle.node.specs.Result.{Done}
use Rattle.node.specs.Table.{tree_at, root, checked}
use Rattle.node.specs.Postorder.{size, nodes_from, SignalsBelow}
use Rattle.node.proofs.PostorderLaws.{size_pos, length-nodes, root_is}
use Rattle.node.proofs.FormatLaws.{own-checked, own_root}
use Rattle.node.specs.Written.{nodes_of, count}

-- what the names stand for
pub nodes_are : (f : Formula) → nodes_of f ≡ nodes_from 0 f
unfolding nodes_of
nodes_are f = refl

pub count-is : (f : Formula) → count f ≡ size f
unfolding count
count-is f = refl

-- at least one node, at most one for each place in the formula, and as many as are counted
pub count_some : (f : Formula) → 0 < count f
unfolding count
count_some f = size_pos f

pub count_most : (f : Formula) → count f ≤ size f
unfolding count
count_most f = omega arith

pub length_of : (f : Formula) → length (nodes_of f) ≡ count f
unfolding nodes_of count
length_of f = length-nodes 0 f

-- the last is the formula, whatever stands behind; the nodes alone are a table whose root it is
pub root_of : (f : Formula) (rest : List ℕ) → SignalsBelow field_limit f → count f ≤ field_limit → tree_at (nodes_of f ++ rest) (count f - 1) ≡ f
unfolding nodes_of count
root_of f rest s h = root_is f rest s h

pub table_of : (limit : ℕ) (f : Formula) → limit ≤ field_limit → SignalsBelow limit f → count f ≤ max_nodes → checked limit (nodes_of f) ≡ Done (record { nodes = count f; signals = limit })
unfolding nodes_of count
table_of limit f l s h = own-checked limit f l s h

pub table-root : (f : Formula) → SignalsBelow field_limit f → count f ≤ max_nodes → root (nodes_of f) ≡ f
unfolding nodes_of count
table-root f s h = own_root f s h
