-- `evaluate` meets its contract: what `examine` accepts is in order, and the rows that `fill` leaves are the ones that the definition lists.
use mathlib.Core.Path.{refl, ap, sym, ◌∙◌}
use native.Mathlib.Omega.{arith}
use lib.ListN.{length}
use Rattle.node.specs.Answer.{says}
use Rattle.node.proofs.ReturnedLaws.{raised}
use Rattle.evaluator.proofs.EvaluationLaws.{Opens, opens, table_of, refuses, evaluates}
use Rattle.evaluator.proofs.evaluate.Goals as goal

pub returns-in_err-counts : goal.returns-in_err-counts
returns-in_err-counts c = refuses _ _ _ _ c.examine.ensures c.in_err-counts.was (raised c.from_residual.ensures)

opened : (c : goal.In_ok-counts) → Opens c.args.nodes.now c.args.signals c.args.recording.now (length c.args.rows.now)
opened c = opens _ _ _ _ (sym c.examine.ensures ∙ ap says c.in_ok-counts.was)

pub read_lasso-lasso-requires : goal.read_lasso-lasso-requires
read_lasso-lasso-requires c = (opened c).reads.long

opened-2 : (c : goal.After-fill-arg-1) → Opens c.args.nodes.now c.args.signals c.args.recording.now (length c.args.rows.now)
opened-2 c = opens _ _ _ _ (sym c.examine.ensures ∙ ap says c.in_ok-counts.was)

pub fill-requires : goal.fill-requires
fill-requires c = table_of _ _ _ _ (opened-2 c) c.read_lasso-lasso.ensures

pub returns : goal.returns
returns c =
    evaluates _ _ _ _ _ (ap says (sym c.in_ok-counts.was) ∙ c.examine.ensures) refl c.read_lasso-lasso.ensures
    c.fill.ensures (λ k. omega (arith, c.type_inv.rows k))
