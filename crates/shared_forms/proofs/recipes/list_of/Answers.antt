-- `recipes::list_of` meets its contract: by the number of the form.
use Rattle.shared_forms.specs.PartLaws.{list-negated, list-core}
use Rattle.shared_forms.proofs.recipes.list_of.Goals as goal

pub returns-then-form-eq-NEGATION_FORM : goal.returns-then-form-eq-NEGATION_FORM
returns-then-form-eq-NEGATION_FORM c = list-negated _ _ c.if-form-eq-NEGATION_FORM.true c.if-half-eq0.false

pub returns : goal.returns
returns c = list-core _ _ c.if-form-eq-AS_EXPANDED.false c.if-form-eq-NEGATION_FORM.false
