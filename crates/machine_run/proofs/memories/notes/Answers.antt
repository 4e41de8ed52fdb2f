use native.Mathlib.Omega.{arith}
use native.Mathlib.Numerals.{add-one}
use mathlib.Core.Path.{◌≡◌}
use Rattle.language.specs.Limits.{max_names}
use Rattle.machine_run.specs.BringingLaws.{renoted_none, renoted_more}
use Rattle.machine_run.proofs.memories.notes.Goals as goal

pub loop-r-init : goal.loop-r-init
loop-r-init c = renoted_none _ _

pub loop-r-preserved : goal.loop-r-preserved
loop-r-preserved c = rw add-one (renoted_more c.loop-r.invariant c.note.ensures)

pub returns : goal.returns
returns c = let last : c.loop-r.r ≡ max_names = omega arith in rw last at c.loop-r.invariant
