-- `list_signals` meets its contract: the ports from position j on are still to be listed.
use Prim.Native.Nat.{ℕ, ◌≤◌}
use mathlib.Core.List.{List}
use Rattle.language.specs.Limits.{max_signals}
use Rattle.language.specs.Tokens.{Token}
use Rattle.language.specs.DeclaredNames.{Port}
use Rattle.ports.specs.Ports.{Ported}
use Rattle.ports.specs.ListingLaws.{Going}
use Rattle.ports.proofs.list_signals.Given as goal

abbrev pub invariant-loop-j : goal.invariant-loop-j
invariant-loop-j l = (l.at ≤ max_signals) ×
    ((R : Token → ℕ) (ps : List Port) → Ported R l.numbers l.offsets l.widths l.ins l.count ps → Going R l.numbers l.offsets l.widths l.ins l.count ps l.initial.firsts l.initial.list l.j l.at l.firsts l.list)
