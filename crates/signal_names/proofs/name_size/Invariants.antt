-- `name_size` meets its contract: the bytes passed are bytes of a name.
use Prim.Native.Nat.{◌+◌, ◌-◌, ◌≤◌, max}
use mathlib.Core.Path.{◌≡◌}
use lib.ListN.{length, drop}
use Rattle.language.specs.Bytes.{is_name_byte}
use Rattle.language.specs.Tokens.{run}
use Rattle.signal_names.proofs.name_size.Given as goal

abbrev pub invariant-loop-i : goal.invariant-loop-i
invariant-loop-i l = ((l.at ≤ l.i) × (l.i ≤ max l.at (length l.text))) × (run is_name_byte (drop l.at l.text) ≡ (l.i - l.at) + run is_name_byte (drop l.i l.text))
