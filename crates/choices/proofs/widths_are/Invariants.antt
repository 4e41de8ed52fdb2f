-- From word to word: whether all are as wide is whether the rest are.
use mathlib.Core.Path.{◌≡◌}
use Rattle.choices.specs.PromiseLaws.{widths_from}
use Rattle.choices.proofs.widths_are.Given as goal

abbrev pub invariant-loop-i : goal.invariant-loop-i
invariant-loop-i l = widths_from l.work l.i l.to l.n ≡ widths_from l.work l.from l.to l.n
