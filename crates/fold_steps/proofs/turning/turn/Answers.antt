use borrow.Author.Rules.{rules}
use Rattle.fold_steps.proofs.turning.turn.Goals as goal

pub shape_of-memory : goal.shape_of-memory
shape_of-memory c =
    let at-frame = c.frame in
    search (rules, at-frame.ensures.len)
