-- `note_names` meets its contract: the names below r are noted.
use Prim.Native.Nat.{ℕ}
use mathlib.Core.List.{List}
use Rattle.language.specs.Tree.{Spec}
use Rattle.names.specs.Resolved.{Stored, Resolved}
use Rattle.notes.specs.NotingLaws.{NotedTo}
use Rattle.notes.proofs.first.note_names.Given as goal

abbrev pub invariant-loop-r : goal.invariant-loop-r
invariant-loop-r l =
    (text refs : List ℕ) (count entries : ℕ) (x : Spec) → Stored text l.work count entries x → Resolved x refs l.found l.names → NotedTo x text l.work l.sorts l.numbers l.r
