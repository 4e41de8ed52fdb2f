-- `first_false` meets its contract: what is left are lines k down to 1, at node i.
use Prim.Native.Nat.{◌≤◌}
use mathlib.Core.Path.{◌≡◌}
use Rattle.line_search.specs.Walking.{value_of, seen}
use Rattle.line_search.proofs.first_false.Given as goal

abbrev pub invariant-loop-k : goal.invariant-loop-k
invariant-loop-k l = (1 ≤ l.k) × (seen l.nodes (λ j. value_of l.rows l.width j l.p) l.section l.count 0 ≡ seen l.nodes (λ j. value_of l.rows l.width j l.p) l.i l.k l.found)
