-- `write_form` meets its contract: each arm is one form.
use Rattle.node.proofs.TableLaws.{rest-above}
use Rattle.forms.proofs.FormLaws.{form-core}
use Rattle.rewriter.proofs.write_form.Goals as goal

pub returns-in-0 : goal.returns-in-0
returns-in-0 c =
    rw c.in-0.is c.copy.ensures

pub returns-in-1 : goal.returns-in-1
returns-in-1 c =
    rw c.in-1.is c.plain.ensures

pub returns-in_default : goal.returns-in_default
returns-in_default c =
    let f = c.args.form in rw (form-core f _ (rest-above 2 f c.in_default.in_default-own.rest)) c.core.ensures
