-- `put_formula` meets its contract: what is written, with what the stack owes, is the whole.
use Prim.Native.Nat.{◌-◌}
use mathlib.Core.Path.{◌≡◌}
use lib.ListN.{length}
use Rattle.node.specs.Limits.{max_nodes}
use Rattle.node.specs.Table.{root}
use Rattle.signal_names.specs.Promise.{slot}
use Rattle.layout.specs.Layout.{layout}
use Rattle.layout.specs.Emitting.{Emits}
use Rattle.layout.proofs.formula.put_formula.Given as goal

abbrev pub invariant-loop-height : goal.invariant-loop-height
invariant-loop-height l = (length l.stack ≡ max_nodes) × Emits (slot l.names l.sizes) l.nodes l.stack l.initial.out l.out (layout (slot l.names l.sizes) (root l.nodes))
    l.start l.height l.at

abbrev pub decreases-loop-height : goal.decreases-loop-height
decreases-loop-height l = length l.initial.out - l.at
