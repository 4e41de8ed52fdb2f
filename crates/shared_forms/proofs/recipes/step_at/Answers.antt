-- `recipes::step_at` meets its contract: the fields are three bytes of the row.
use mathlib.Core.Path.{◌∙◌}
use Rattle.shared_forms.specs.RecipeLaws.{step-bytes}
use Rattle.shared_forms.proofs.recipes.step_at.Goals as goal

pub returns : goal.returns
returns c =
    let p = c.requires in
    let b = step-bytes _ p.of.inside _ p.here p.few in
    record {
      kind-is = c.from-kind.ensures ∙ rw p.of.whole b.kind-is;
      first-is = c.from-first.ensures ∙ rw p.of.whole b.first-is;
      second_is = c.from-second.ensures ∙ rw p.of.whole b.second_is;
    }
