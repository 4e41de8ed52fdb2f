-- The table from entry to entry.
use Rattle.types.specs.Declaring.{Declared}
use Rattle.types.proofs.table.declare_all.Given as goal

abbrev pub invariant-loop-i : goal.invariant-loop-i
invariant-loop-i l = Declared l.refs l.work l.initial.table l.table l.i
