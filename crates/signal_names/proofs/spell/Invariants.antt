-- `spell` meets its contract: the names before k stand in their slots, and none of them is at fault.
use Prim.Native.Nat.{◌≤◌}
use mathlib.Core.Path.{◌≡◌}
use lib.ListN.{length}
use Rattle.basic.specs.Spelling.{names_of}
use Rattle.signal_names.specs.SlotLaws.{Spelling}
use Rattle.signal_names.proofs.spell.Given as goal

abbrev pub invariant-loop-k : goal.invariant-loop-k
invariant-loop-k l = (l.k ≤ length l.list) × ((length l.names ≡ length l.initial.names) × ((length l.sizes ≡ length l.initial.sizes) × Spelling l.names l.sizes (names_of l.text l.list) l.k))
