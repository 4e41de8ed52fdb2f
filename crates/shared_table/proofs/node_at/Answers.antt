-- `shared_table::node_at` meets its contract: the node's word stands at its place.
use native.Mathlib.Omega.{arith}
use Rattle.shared_table.specs.SharedLaws.{node-inside, node-few, node-is}
use Rattle.shared_table.proofs.node_at.Goals as goal

pub overflow_add-result : goal.overflow_add-result
overflow_add-result c = let f = node-few c.requires.0.shares c.requires.1 in record { fits = omega arith }

pub overflow_mul-result : goal.overflow_mul-result
overflow_mul-result c = let f = node-few c.requires.0.shares c.requires.1 in record { fits = omega arith }

pub overflow_add-result-2 : goal.overflow_add-result-2
overflow_add-result-2 c = let f = node-few c.requires.0.shares c.requires.1 in record { fits = omega arith }

pub offset_bounds-out-i : goal.offset_bounds-out-i
offset_bounds-out-i c = let f = node-few c.requires.0.shares c.requires.1 in record { fits = omega arith }

pub bounds-out-i : goal.bounds-out-i
bounds-out-i c = node-inside c.requires.0.shares c.requires.1

pub returns : goal.returns
returns c = λ t s. node-is s c.requires.1
