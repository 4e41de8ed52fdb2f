-- `names::resolve_with` meets its contract: the arrays that it makes are long enough, and the tables hold no place.
use Rattle.names.proofs.ResolveLaws.{begun, undeclared, begins, answers}
use Rattle.names.proofs.resolve_with.Goals as goal

pub intern-requires : goal.intern-requires
intern-requires g c = begun c.requires.0

pub declare_all-census-requires : goal.declare_all-census-requires
declare_all-census-requires g c =
    let fits = c.requires.0 in
    undeclared fits fits.tree.stored c.intern.ensures c.intern.auto.ids c.requires.2

pub walk_all-walk-requires : goal.walk_all-walk-requires
walk_all-walk-requires g c =
    let fits = c.requires.0 in
    begins fits fits.tree.stored c.intern.ensures c.intern.auto.ids c.declare_all-census.ensures c.requires.1

pub returns : goal.returns
returns g c =
    λ x st. answers c.requires.0 st c.intern.ensures c.intern.auto.ids c.declare_all-census.ensures
    c.walk_all-walk.ensures c.requires.1 c.answer.ensures
