-- `write_entries` meets its contract: after i entries the rest is still to be stored.
use Rattle.ports.specs.EntryRuns.{Stores}
use Rattle.ports.proofs.write_entries.Given as goal

abbrev pub invariant-loop-i : goal.invariant-loop-i
invariant-loop-i l = Stores l.top l.offset l.width l.count l.at l.i l.initial.list l.list
