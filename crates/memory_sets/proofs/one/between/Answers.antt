-- `one::between` meets its contract: a set's room is lent.
use Prim.Native.Nat.{suc, ◌+◌, ◌-◌}
use Rattle.memory_sets.specs.AnswerLaws.{part-set}
use native.Mathlib.Omega.{arith}
use Rattle.language.specs.Limits.{max_elements}
use borrow.Author.Rules.{rules}
use Rattle.memory_sets.proofs.one.between.Goals as goal

pub returns : goal.returns
returns c =
    part-set c.args.memory.now c.args.at (c.args.at + suc max_elements - c.args.at) _ _ _ (omega arith) (omega (arith, c.requires.room)) (search rules) c.between.ensures
