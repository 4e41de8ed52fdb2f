-- `recipes::recipes` meets its contract by one computed comparison of the table.
use mathlib.Core.Path.{refl}
use Rattle.sharing.specs.Sharing.{position, having, write, distinct_nodes}
use Rattle.shared_forms.specs.Templates.{templates, threes, row_of, rows, recipes}
use Rattle.shared_forms.proofs.recipes.recipes.Goals as goal

pub returns : goal.returns
unfolding recipes rows templates row_of threes distinct_nodes write having position
returns c = refl
