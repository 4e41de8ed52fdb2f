-- `weigh` meets its contract: of the first k entries no more than k are counted.
use Prim.Native.Nat.{◌≤◌}
use Rattle.reader.proofs.weight.weigh.Given as goal

abbrev pub invariant-loop-k : goal.invariant-loop-k
invariant-loop-k l = (l.holders ≤ l.k) × (l.definitions ≤ l.k)
