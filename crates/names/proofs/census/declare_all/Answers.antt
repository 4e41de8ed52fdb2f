-- `names::census::declare_all` meets its contract: what the three functions have found, put together.
use Rattle.names.proofs.census.declare_all.Goals as goal

pub returns : goal.returns
returns c =
    λ h b. let m = c.declare-again.ensures h b.met-blank in
    let s = c.declare.ensures h b.seen-blank in
    record { doubles = m.doubles; shown = s.shown; placed = s.placed; numbered = c.number_declared-tally.ensures h b.table-blank }
