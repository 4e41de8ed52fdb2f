-- `copy_words` meets its contract: the invariant is the copy of the first i words.
use Prim.Native.Nat.{◌≤◌}
use mathlib.Core.Path.{◌≡◌}
use lib.ListN.{length}
use lib.Seq.{paste}
use Rattle.basics.proofs.copy_words.Given as goal

abbrev pub invariant-loop-i : goal.invariant-loop-i
invariant-loop-i l = (l.i ≤ l.n) × ((length l.out ≡ length l.initial.out) × (l.out ≡ paste l.initial.out 0 l.from l.i))
