-- `one::passes` meets its contract: x is an element where it stands at its place, and none where it does not.
use Rattle.sets.specs.SelectionLaws.{passes_there, passes-not}
use lib.Seq.{get_or-drop}
use mathlib.Core.Path.{sym, ◌∙◌}
use native.Mathlib.Omega.{arith}
use Rattle.memory_sets.proofs.one.passes.Goals as goal
use Rattle.memory_sets.proofs.one.passes.Goals.{then-j-set+else-x-memory, else-j-set}

pub returns-then-x-memory : goal.returns-then-x-memory
returns-then-x-memory c =
    passes_there c.args.inside _ _ _ _ c.requires.placed c.requires.parted.0 c.if-j-set.true (c.if-x-memory.true ∙ sym (get_or-drop c.args.set.at c.args.memory.now c.args.j 0))

pub returns : goal.returns
returns c =
    passes-not c.args.inside _ _ _ _ c.requires.placed c.requires.parted.0
    (λ l. elim c.if-j-set.branch [
      | then-j-set+else-x-memory w ↦ let most = c.requires.parted.1 l in let other = w.if-x-memory.false in omega (arith, get_or-drop c.args.set.at c.args.memory.now c.args.j 0)
      | else-j-set w ↦ absurd (omega arith)
    ])
