-- `names::walk::walk_all` meets its contract: the walk has gone over the entries before the next.
use Prim.Native.Nat.{◌≤◌, ◌-◌}
use mathlib.Core.Path.{◌≡◌}
use lib.ListN.{length}
use Rattle.language.specs.Names.{Names}
use Rattle.names.specs.Tables.{no_place}
use Rattle.names.specs.Walkable.{Walkable}
use Rattle.names.specs.Walking.{Walking}
use Rattle.names.specs.States.{Reaches}
use Rattle.names.proofs.walk.walk_all.Given as goal

abbrev pub invariant-loop-walk : goal.invariant-loop-walk
invariant-loop-walk l =
    (l.walk.next ≤ l.entries) × (length l.seen ≡ length l.initial.seen) × (length l.table ≡ length l.initial.table) × (length l.stack ≡ length l.initial.stack) × (length l.refs ≡ length l.initial.refs) ×
    ((h : Walkable l.work l.ids l.entries) (declared : Names) → Walking h declared 0 l.initial.seen l.initial.table l.initial.stack l.initial.refs 0 no_place no_place
    → Reaches h declared l.seen l.table l.stack l.refs l.walk)

abbrev pub decreases-loop-walk : goal.decreases-loop-walk
decreases-loop-walk l = l.entries - l.walk.next
