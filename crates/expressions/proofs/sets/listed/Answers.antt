-- `expressions::sets::listed` meets its contract: the last element's entry, then the set's.
use borrow.Author.Rules.{rules}
use Rattle.expressions.proofs.sets.listed.Goals as goal

pub grow-d-requires : goal.grow-d-requires
grow-d-requires c =
    c.requires.element

pub build-requires : goal.build-requires
build-requires c =
    let grow = c.grow-d in
    rw (grow.ensures.0, grow.ensures.1) c.requires.set

pub returns : goal.returns
returns c =
    let grow = c.grow-d in
    let build = c.build in
    rw (build.ensures.0, build.ensures.1, grow.ensures.0, grow.ensures.1) (search rules)
