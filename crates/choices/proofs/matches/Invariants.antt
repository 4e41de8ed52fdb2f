-- From mark to mark: the literals so far are folded.
use Prim.Native.Nat.{◌≤◌}
use Rattle.choices.specs.PromiseLaws.{Matched}
use Rattle.choices.proofs.matches.Given as goal

abbrev pub invariant-loop-i : goal.invariant-loop-i
invariant-loop-i l = (l.i ≤ l.n) × Matched l.text l.place l.first l.initial.out l.at l.i l.f l.out
