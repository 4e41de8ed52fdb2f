-- From entry to entry: where the entries end is where the rest of them does.
use mathlib.Core.Path.{◌≡◌}
use Rattle.choices.specs.Entries.{end_from}
use Rattle.choices.proofs.end_from.Given as goal

abbrev pub invariant-loop-j : goal.invariant-loop-j
invariant-loop-j l = end_from l.work l.low l.j ≡ end_from l.work l.low l.i
