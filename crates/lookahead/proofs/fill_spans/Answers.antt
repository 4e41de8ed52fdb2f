-- `fill_spans` meets its contract: the first nodes, then the others.
use native.Mathlib.Omega.{arith}
use Rattle.lookahead.proofs.fill_spans.Goals as goal

pub fill_near-requires : goal.fill_near-requires
fill_near-requires c =
    (c.requires.0, c.requires.1, omega (arith, c.min-count.ensures), omega (arith, c.min-count.ensures))

pub fill_far-requires : goal.fill_far-requires
fill_far-requires c =
    let e = c.min-count.ensures in
    (c.requires.0, c.fill_near.ensures, omega (arith, e), λ h. omega (arith, e, h))
