-- `put_bytes` meets its contract: the invariant is the run of the first i bytes.
use Prim.Native.Nat.{◌≤◌}
use mathlib.Core.Path.{◌≡◌}
use lib.ListN.{length}
use lib.Seq.{sets}
use Rattle.signal_names.specs.Promise.{part}
use Rattle.signal_names.proofs.put_bytes.Given as goal

abbrev pub invariant-loop-i : goal.invariant-loop-i
invariant-loop-i l = (l.i ≤ l.n) × ((length l.out ≡ length l.initial.out) × (l.out ≡ sets l.initial.out l.at (part l.from l.start l.i)))
