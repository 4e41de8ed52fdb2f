-- `number_of` meets its contract: the notes that are laid are what the machine asks for.
use Rattle.declarations.specs.ExpressionLaws.{workable_runnable, told-numbered}
use Rattle.declarations.proofs.evaluate.number_of.Goals as goal

pub number_of-requires : goal.number_of-requires
number_of-requires c =
    let lay = c.lay in
    workable_runnable c.requires.room.memory lay.ensures.0 lay.ensures.1 c.requires

pub returns : goal.returns
returns c =
    let lay = c.lay in
    let told = c.number_of in
    told-numbered c.requires.room.memory lay.ensures.0 lay.ensures.1 told.ensures
