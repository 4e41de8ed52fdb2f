-- `names::numbering::number_declared` meets its contract: the entries before k are done.
use Prim.Native.Nat.{◌≤◌}
use mathlib.Core.Path.{◌≡◌}
use lib.ListN.{length}
use Rattle.std.specs.Prelude.{is_some, unwrap_or, ltb}
use Rattle.language.specs.Limits.{max_names}
use Rattle.names.specs.Tables.{no_place}
use Rattle.names.specs.Walkable.{Walkable, Table}
use Rattle.names.specs.Numbering.{Numbered}
use Rattle.names.proofs.numbering.number_declared.Given as goal

abbrev pub invariant-loop-k : goal.invariant-loop-k
invariant-loop-k l =
    (length l.table ≡ length l.initial.table) × (length l.found ≡ length l.initial.found) × (l.tally.0 ≤ l.k) × (is_some l.tally.1.0 ≡ ltb max_names l.tally.0) ×
    ((h : Walkable l.work l.ids l.entries) → Table h l.initial.table (λ t. no_place) → Numbered h l.k l.table l.found l.tally.0 (unwrap_or l.tally.1.0 0))
