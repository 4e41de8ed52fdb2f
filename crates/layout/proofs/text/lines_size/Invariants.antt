-- `lines_size` meets its contract: the sizes of the lines before k are summed.
use Prim.Native.Nat.{◌+◌, ◌*◌, ◌≤◌}
use mathlib.Core.Path.{◌≡◌}
use lib.ListN.{length, drop}
use Rattle.layout.specs.Layout.{nth}
use Rattle.layout.specs.Text.{max_line, lines_size}
use Rattle.layout.proofs.text.lines_size.Given as goal

abbrev pub invariant-loop-k : goal.invariant-loop-k
invariant-loop-k l = (l.k ≤ length l.list) × ((l.n ≤ max_line * l.k) × (l.n + lines_size (nth l.sizes) l.flag l.k (drop l.k l.list) ≡ lines_size (nth l.sizes) l.flag 0 l.list))
