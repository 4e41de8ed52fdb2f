-- `recipes::count_at` meets its contract: the count is the first byte of the row.
use mathlib.Core.Path.{◌∙◌}
use Rattle.shared_forms.specs.RecipeLaws.{count-byte}
use Rattle.shared_forms.proofs.recipes.count_at.Goals as goal

pub returns : goal.returns
returns c = let p = c.requires in c.from.ensures ∙ rw p.whole (count-byte _ p.inside)
