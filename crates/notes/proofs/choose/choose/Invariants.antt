-- `choose` meets its contract: the entries from i on are still to be looked at.
use Prim.Native.Nat.{◌+◌, ◌≤◌}
use mathlib.Core.List.{List}
use mathlib.Core.Path.{◌≡◌}
use lib.ListN.{length}
use Rattle.language.specs.Grammar.{Tokens}
use Rattle.entries.specs.Flat.{Entry}
use Rattle.entries.specs.Stored.{EntriesFrom}
use Rattle.notes.specs.Chosen.{choice}
use Rattle.notes.specs.ChoosingLaws.{Choosing}
use Rattle.notes.proofs.choose.choose.Given as goal

abbrev pub invariant-loop-i : goal.invariant-loop-i
invariant-loop-i l = record {
  few : l.at ≤ l.from + l.i;
  chosen : (ts : Tokens) (es : List Entry) → EntriesFrom l.work ts 0 es → length es ≡ l.entries
      → Choosing l.work ts l.entries (choice l.wanted l.low l.high) es l.initial.order l.from l.heading l.i l.at l.order;
}
