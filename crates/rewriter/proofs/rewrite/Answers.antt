-- `rewrite` meets its contract: the form, the table, then the answer of `fit` by the small table or by the large one.
use mathlib.Core.Path.{refl, ◌∙◌, sym, ap, subst}
use native.Mathlib.Omega.{arith}
use Rattle.node.specs.Answer.{says}
use Rattle.node.proofs.ReturnedLaws.{raised}
use Rattle.node.proofs.TableLaws.{checked-done}
use Rattle.rewriter.specs.Rewriting.{target}
use Rattle.rewriter.specs.Fitting.{Fitted}
use Rattle.rewriter.specs.PromiseLaws.{refused-form, refused-table, fitted}
use Rattle.rewriter.proofs.rewrite.Goals as goal

pub returns-then-form-gt-CORE_FORM : goal.returns-then-form-gt-CORE_FORM
returns-then-form-gt-CORE_FORM c = let a = c.args in refused-form a.form a.nodes.now a.out.now _ c.if-form-gt-CORE_FORM.true refl

pub returns-in_err-check_table : goal.returns-in_err-check_table
returns-in_err-check_table c =
    let a = c.args in
    rw (raised c.from_residual.ensures)
    (refused-table a.form a.nodes.now a.out.now _ c.if-form-gt-CORE_FORM.false c.check_table.ensures c.in_err-check_table.was refl)

pub fit_large-requires : goal.fit_large-requires
fit_large-requires c =
    (checked-done (sym c.check_table.ensures ∙ ap says c.in_ok-check_table.was)).formed

pub returns-then-nodes-gt-SMALL_TABLE : goal.returns-then-nodes-gt-SMALL_TABLE
returns-then-nodes-gt-SMALL_TABLE c =
    let a = c.args in
    fitted a.form a.nodes.now a.out.now _ c.if-form-gt-CORE_FORM.false c.check_table.ensures c.in_ok-check_table.was c.fit_large.ensures

pub fit-requires : goal.fit-requires
fit-requires c =
    ((checked-done (sym c.check_table.ensures ∙ ap says c.in_ok-check_table.was)).formed, omega arith)

pub returns-in-Some : goal.returns-in-Some
returns-in-Some c =
    let a = c.args in
    fitted a.form a.nodes.now a.out.now _ c.if-form-gt-CORE_FORM.false c.check_table.ensures c.in_ok-check_table.was (c.fit.ensures.fitted _ c.in-Some.is)

pub fit_large-requires-in-None : goal.fit_large-requires-in-None
fit_large-requires-in-None c =
    (checked-done (sym c.check_table.ensures ∙ ap says c.in_ok-check_table.was)).formed

pub returns-in-None : goal.returns-in-None
returns-in-None c =
    let a = c.args in
    fitted a.form a.nodes.now a.out.now _ c.if-form-gt-CORE_FORM.false c.check_table.ensures c.in_ok-check_table.was
    (subst (λ o. Fitted (target a.form a.nodes.now) o c.fit_large-in-None.new.out c.fit_large-in-None.result) (c.fit.ensures.many c.in-None.is).1 c.fit_large-in-None.ensures)
