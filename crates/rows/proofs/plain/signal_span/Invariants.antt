-- `signal_span` meets its contract: v is the number of the first i bits.
use Prim.Native.Nat.{◌+◌}
use mathlib.Core.Path.{◌≡◌}
use Rattle.bits.specs.Bits.{number}
use Rattle.recordings.specs.Recording.{letter_of}
use Rattle.rows.proofs.plain.signal_span.Given as goal

abbrev pub invariant-loop-i : goal.invariant-loop-i
invariant-loop-i l = l.v ≡ number (λ q. letter_of l.recording l.lasso.k (l.at + q) l.signal) l.i
