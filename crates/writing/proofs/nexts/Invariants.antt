-- `nexts` meets its contract. The loop's invariant: the next has been written i times, up to r.
use Rattle.writing.specs.Writing.{Nexts}
use Rattle.writing.proofs.nexts.Given as goal

abbrev pub invariant-loop-i : goal.invariant-loop-i
invariant-loop-i l = Nexts l.next l.i l.initial.out l.out l.m l.r
