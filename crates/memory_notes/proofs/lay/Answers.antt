use mathlib.Core.Path.{refl, ◌∙◌}
use native.Mathlib.Omega.{arith}
use lib.ListN.{set, length-set}
use Rattle.machine.specs.Memory.{free_word, slots_word, first_kept}
use Rattle.memory_notes.specs.LayLaws.{laid_none, laid_more, laid-whole}
use Rattle.memory_notes.proofs.lay.Goals as goal

pub loop-r-init : goal.loop-r-init
loop-r-init c = record { from = omega arith; until = omega arith; laid = laid_none _ _ _ _ }

pub loop-r-preserved : goal.loop-r-preserved
loop-r-preserved c = record {
  from = omega (arith, c.behind-kept.ensures);
  until = omega (arith, c.behind-kept.ensures);
  laid = laid_more c.loop-r.memory _ _ _ c.loop-r.r _ _ refl c.from.ensures (omega arith) c.loop-r.invariant.laid;
}

pub returns : goal.returns
returns c = (
  length-set (set c.loop-r.memory free_word first_kept) slots_word _ ∙ length-set c.loop-r.memory free_word first_kept ∙ c.loop-r.auto.memory,
  laid-whole c.loop-r.memory _ _ _ c.loop-r.r _ (omega arith) (omega arith) (omega arith) (omega arith) c.loop-r.invariant.laid,
)
