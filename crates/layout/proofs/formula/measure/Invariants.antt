-- `measure` meets its contract: the sizes of the nodes before i are told.
use Prim.Native.Nat.{◌≤◌}
use mathlib.Core.Path.{◌≡◌}
use lib.ListN.{length}
use Rattle.node.specs.Limits.{max_nodes}
use Rattle.layout.specs.Emitting.{Measured}
use Rattle.layout.proofs.formula.measure.Given as goal

abbrev pub invariant-loop-i : goal.invariant-loop-i
invariant-loop-i l = (l.i ≤ length l.nodes) × ((length l.lens ≡ max_nodes) × Measured l.nodes l.sizes l.lens l.i)
