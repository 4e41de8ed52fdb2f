-- `lay` meets its contract: the names below r are laid.
use Prim.Native.Nat.{suc, ◌+◌, ◌*◌, ◌≤◌}
use Rattle.language.specs.Limits.{max_elements}
use Rattle.machine.specs.Memory.{first_kept}
use Rattle.memory_notes.specs.LayLaws.{LaidTo}
use Rattle.memory_notes.proofs.lay.Given as goal

abbrev pub invariant-loop-r : goal.invariant-loop-r
invariant-loop-r l = record {
  from : first_kept ≤ l.kept;
  until : l.kept ≤ first_kept + suc max_elements * l.r;
  laid : LaidTo l.memory l.sorts l.numbers l.firsts l.r;
}
