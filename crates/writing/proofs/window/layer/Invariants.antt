-- `layer` meets its contract. The loop's invariant: i further copies stand one after another, up to `at`.
use Prim.Native.Nat.{suc}
use mathlib.Core.Path.{◌≡◌}
use Rattle.writing.specs.Windows.{place, Layered}
use Rattle.writing.proofs.window.layer.Given as goal

abbrev pub invariant-loop-i : goal.invariant-loop-i
invariant-loop-i l = (l.at ≡ place l.from l.size (suc l.i)) × Layered l.i l.from l.size l.initial.out l.out
