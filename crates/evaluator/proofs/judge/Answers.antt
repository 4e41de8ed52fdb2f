-- `judge` meets its contract: it reads the bit of the root's row at position 0.
use mathlib.Core.Path.{refl, ap, sym, ◌∙◌}
use native.Mathlib.Omega.{arith}
use lib.ListN.{length}
use Rattle.std.specs.Prelude.{Ok}
use Rattle.node.specs.Answer.{says}
use Rattle.node.proofs.ReturnedLaws.{raised}
use Rattle.evaluator.proofs.EvaluationLaws.{Opens, opens, RootIn, root_in, judges, judges_handed}
use Rattle.evaluator.specs.declared.Verdict.{Verdict}
use Rattle.evaluator.proofs.judge.Goals as goal

pub returns-in_err-evaluate : goal.returns-in_err-evaluate
returns-in_err-evaluate c = judges_handed _ _ _ _ _ c.evaluate.ensures c.in_err-evaluate.was (raised c.from_residual.ensures)

-- where `evaluate` accepts, the recording has a header and the root's row lies in the buffer
opened : (c : goal.In_ok-evaluate) → Opens c.args.nodes.now c.args.signals c.args.recording.now (length c.args.rows.now)
opened c = opens _ _ _ _ (sym c.evaluate.ensures.answer ∙ ap says c.in_ok-evaluate.was)

pub read_lasso-lasso-requires : goal.read_lasso-lasso-requires
read_lasso-lasso-requires c = (opened c).reads.long

opened-2 : (c : goal.After-struct_known-1) → Opens c.args.nodes.now c.args.signals c.args.recording.now (length c.args.rows.now)
opened-2 c = opens _ _ _ _ (sym c.evaluate.ensures.answer ∙ ap says c.in_ok-evaluate.was)

root : (c : goal.After-struct_known-1) → RootIn c.args.nodes.now (length c.args.rows.now) c.read_lasso-lasso.result
root c = root_in _ _ _ _ (opened-2 c) c.read_lasso-lasso.ensures

pub overflow_add-w : goal.overflow_add-w
overflow_add-w c = let i = root c in record { fits = omega arith }

pub overflow_sub-last : goal.overflow_sub-last
overflow_sub-last c = let i = root c in omega arith

opened-3 : (c : goal.After-struct_known-1) → Opens c.args.nodes.now c.args.signals c.args.recording.now (length c.args.rows.now)
opened-3 c = opens _ _ _ _ (sym c.evaluate.ensures.answer ∙ ap says c.in_ok-evaluate.was)

root-2 : (c : goal.After-struct_known-1) → RootIn c.args.nodes.now (length c.args.rows.now) c.read_lasso-lasso.result
root-2 c = root_in _ _ _ _ (opened-3 c) c.read_lasso-lasso.ensures

pub overflow_mul-w : goal.overflow_mul-w
overflow_mul-w c = let i = root-2 c in record { fits = omega arith }

pub overflow_mul-w-2 : goal.overflow_mul-w-2
overflow_mul-w-2 c = let i = root-2 c in record { fits = omega arith }

pub get_bit-requires : goal.get_bit-requires
get_bit-requires c =
    let i = root-2 c in omega (arith, c.rows-1.given)

pub returns-then-get_bit : goal.returns-then-get_bit
returns-then-get_bit c =
    judges _ _ _ _ _ c.evaluate.ensures (Ok Verdict.Holds) (ap says c.in_ok-evaluate.was) c.read_lasso-lasso.ensures
    c.get_bit.ensures c.if-get_bit.true refl

pub returns : goal.returns
returns c =
    judges _ _ _ _ _ c.evaluate.ensures (Ok Verdict.Fails) (ap says c.in_ok-evaluate.was) c.read_lasso-lasso.ensures
    c.get_bit.ensures c.if-get_bit.false refl
