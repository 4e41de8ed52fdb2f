-- `expressions::start::leaf` meets its contract: past the token, then its entry.
use borrow.Author.Rules.{rules}
use Rattle.expressions.proofs.start.leaf.Goals as goal

pub next-requires : goal.next-requires
next-requires c =
    c.requires.at-fits

pub emit-d-requires : goal.emit-d-requires
emit-d-requires c =
    let p = c.requires in rw c.next.ensures (record { room = p.room; few = p.out_fits; kind_fits = p.kind_fits; index-fits = p.at-fits; size_fits = search rules })

pub returns : goal.returns
returns c =
    let emit = c.emit-d in
    rw (c.climbing.ensures, emit.ensures.0, emit.ensures.1, c.next.ensures) (search rules)
