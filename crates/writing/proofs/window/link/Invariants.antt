-- `link` meets its contract. The loop's invariant: the chain over the copies from the (n - i)th on is written, and `first` is where that copy starts.
use Prim.Native.Nat.{◌-◌}
use mathlib.Core.Path.{◌≡◌}
use Rattle.writing.specs.Windows.{place, Linked}
use Rattle.writing.proofs.window.link.Given as goal

abbrev pub invariant-loop-i : goal.invariant-loop-i
invariant-loop-i l = (l.first ≡ place l.from l.size (l.n - l.i)) × Linked l.op l.next l.n (l.n - l.i) l.from l.size l.initial.out l.out l.r
