-- `blank` meets its contract: what is left to test are the bits from i on.
use Prim.Native.Nat.{◌-◌}
use mathlib.Core.Path.{◌≡◌}
use Rattle.recordings.specs.Recording.{blank}
use Rattle.recordings.proofs.blank.Given as goal

abbrev pub invariant-loop-i : goal.invariant-loop-i
invariant-loop-i l = blank l.bytes l.from (l.to - l.from) ≡ blank l.bytes l.i (l.to - l.i)
