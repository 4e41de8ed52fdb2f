-- `put_lines` meets its contract: the lines of the entries before k are written.
use Prim.Native.Nat.{◌≤◌}
use lib.ListN.{length}
use Rattle.signal_names.specs.Promise.{slot}
use Rattle.layout.specs.TextLaws.{Lines}
use Rattle.layout.proofs.text.put_lines.Given as goal

abbrev pub invariant-loop-k : goal.invariant-loop-k
invariant-loop-k l = (l.k ≤ length l.list) × Lines (slot l.names l.sizes) l.flag l.list l.initial.out l.out l.start l.k l.at
