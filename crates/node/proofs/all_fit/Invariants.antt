-- `all_fit` meets its contract: all fit where those before i do and those from i on.
use Prim.Native.Nat.{◌≤◌}
use mathlib.Core.Path.{◌≡◌}
use mathlib.Core.Bool.{◌&&◌}
use lib.ListN.{length, drop}
use Rattle.node.specs.Formed.{all_fit}
use Rattle.node.proofs.all_fit.Given as goal

abbrev pub invariant-loop-i : goal.invariant-loop-i
invariant-loop-i l = (l.i ≤ length l.nodes) × (all_fit l.limit 0 l.nodes ≡ (l.fit && all_fit l.limit l.i (drop l.i l.nodes)))
