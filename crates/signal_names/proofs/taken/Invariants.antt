-- `taken` meets its contract: no slot before j has the name.
use Prim.Native.Nat.{ℕ, ◌*◌, ◌<◌}
use mathlib.Core.Path.{◌≡◌}
use mathlib.Core.Bool.{false}
use Rattle.language.specs.Bytes.{same}
use Rattle.signal_names.specs.Promise.{slot_bytes, slot, part}
use Rattle.signal_names.proofs.taken.Given as goal

abbrev pub invariant-loop-j : goal.invariant-loop-j
invariant-loop-j l = (i : ℕ) → i < l.j → same (slot l.names l.sizes i) (part l.names (slot_bytes * l.k) l.size) ≡ false
