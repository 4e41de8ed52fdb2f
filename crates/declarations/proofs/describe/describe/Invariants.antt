-- `describe` meets its contract: the ports before position j are described.
use Prim.Native.Nat.{◌≤◌}
use mathlib.Core.Path.{◌≡◌}
use lib.ListN.{length, get_or}
use Rattle.operands.specs.Entries.{place_at}
use Rattle.declarations.specs.Describing.{Filled, enumeration_for}
use Rattle.declarations.proofs.describe.describe.Given as goal

abbrev pub invariant-loop-j : goal.invariant-loop-j
invariant-loop-j l = (l.j ≤ l.count) ×
    ((length l.order ≡ length l.initial.order) × ((length l.enumerations ≡ length l.initial.enumerations) ×
    ((length l.offsets ≡ length l.initial.offsets) × (Filled (λ i. get_or l.refs (get_or l.places i 0) 0) l.order l.j ×
    (Filled (λ i. enumeration_for l.work l.refs l.found (get_or l.places i 0)) l.enumerations l.j × Filled (λ i. place_at l.work (get_or l.places i 0)) l.offsets l.j)))))
