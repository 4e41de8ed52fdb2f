-- `expressions::stack::start_of` meets its contract. The loop's invariant: from where it stands, as many trees as are left begin where all of them do.
use Prim.Native.Nat.{◌≤◌}
use mathlib.Core.Path.{◌≡◌}
use lib.ListN.{length}
use Rattle.expressions.specs.Stack.{start_of, Trees}
use Rattle.language.specs.Limits.{max_tokens, work_bytes}
use Rattle.expressions.proofs.stack.start_of.Given as goal

abbrev pub invariant-loop-left : goal.invariant-loop-left
invariant-loop-left l =
    (l.start ≤ max_tokens) × (work_bytes ≤ length l.work) × Trees l.work l.start l.left × (start_of l.work l.start l.left ≡ start_of l.work l.out l.n)

abbrev pub decreases-loop-left : goal.decreases-loop-left
decreases-loop-left l = l.left
