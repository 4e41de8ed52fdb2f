-- `names::declare::declare` meets its contract: the entries from k on are done.
use mathlib.Core.Path.{◌≡◌}
use lib.ListN.{length}
use Rattle.names.specs.Tables.{no_place}
use Rattle.names.specs.Walkable.{Walkable, Table}
use Rattle.names.specs.Meeting.{Met}
use Rattle.names.proofs.declare.declare.Given as goal

abbrev pub invariant-loop-k : goal.invariant-loop-k
invariant-loop-k l =
    (length l.table ≡ length l.initial.table) × ((h : Walkable l.work l.ids l.entries) → Table h l.initial.table (λ t. no_place) → Met h l.low l.k l.table l.place)
