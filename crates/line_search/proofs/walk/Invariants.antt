-- `walk` meets its contract: what is left of the path leads from i to the same end.
use mathlib.Core.Path.{◌≡◌}
use Rattle.line_search.specs.Walking.{walked}
use Rattle.line_search.proofs.walk.Given as goal

abbrev pub invariant-loop-left : goal.invariant-loop-left
invariant-loop-left l = walked l.nodes l.path l.steps l.from ≡ walked l.nodes l.rest l._left l.i
