-- `broken` meets its contract: up to p ASSERT holds, and what is asked of REQUIRE.
use Prim.Native.Nat.{◌-◌}
use mathlib.Core.Path.{◌≡◌}
use Rattle.faults.specs.Naming.{broken_from}
use Rattle.line_search.specs.Walking.{value_of}
use Rattle.line_search.proofs.broken.Given as goal

abbrev pub invariant-loop-p : goal.invariant-loop-p
invariant-loop-p l =
    broken_from l.strict (value_of l.rows l.width l.require) (value_of l.rows l.width l.assert) 0 l.n ≡ broken_from l.strict (value_of l.rows l.width l.require) (value_of l.rows l.width l.assert) l.p (l.n - l.p)
