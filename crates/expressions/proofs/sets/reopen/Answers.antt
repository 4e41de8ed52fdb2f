-- `expressions::sets::reopen` meets its contract: a slot popped, and one pushed with its token and level.
use borrow.Author.Rules.{rules}
use native.Mathlib.Omega.{arith}
use Rattle.expressions.proofs.sets.reopen.Goals as goal

pub top-f-requires : goal.top-f-requires
top-f-requires c =
    c.requires.0

pub popped-n-requires : goal.popped-n-requires
popped-n-requires c =
    c.requires.0.some

pub push-requires : goal.push-requires
push-requires c =
    let p = c.requires.0 in rw c.popped-n.ensures (record
    { room = p.room; deep = omega (arith, p.deep, p.some); class-fits = c.requires.1; level_fits = omega arith; token-fits = omega arith })

pub returns : goal.returns
returns c =
    let push = c.push in
    rw (push.ensures.0, push.ensures.1, c.popped-n.ensures, c.top-f.ensures) (search rules)
