-- `window` meets its contract. The loop's invariant: the chain with i further times the operand is written, up to r.
use Rattle.shared_writing.specs.WindowLaws.{Chains}
use Rattle.shared_writing.proofs.window.Given as goal

abbrev pub invariant-loop-i : goal.invariant-loop-i
invariant-loop-i l = Chains l.op l.next l.i l.initial.out l.out l.m l.r
