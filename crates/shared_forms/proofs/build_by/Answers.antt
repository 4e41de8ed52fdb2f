-- `build_by` meets its contract: the forms that are needed are marked, then put together.
use mathlib.Core.Path.{◌∙◌}
use lib.ListN.{length-set}
use Rattle.shared_forms.specs.ComposeLaws.{begun-marking, build-start}
use Rattle.shared_forms.proofs.build_by.Goals as goal

pub mark-requires : goal.mark-requires
mark-requires c =
    (c.recipes-recipes.ensures, begun-marking c.requires)

pub fill-requires : goal.fill-requires
fill-requires c =
    (c.recipes-recipes.ensures, build-start c.mark.ensures c.requires.none)

pub shape_of-notes : goal.shape_of-notes
shape_of-notes c =
    c.notes-2-1.given ∙ c.notes-1.given ∙ simp length-set
