-- `spellings::trie::step` meets its contract: the child that is there, or the tree grown by it.
use native.Mathlib.Omega.{arith}
use Rattle.spellings.specs.TrieGrowth.{step_room, step_old, step_new}
use Rattle.spellings.proofs.trie.step.Goals as goal

pub offset_bounds-links-link : goal.offset_bounds-links-link
offset_bounds-links-link c =
    let i = (c.seek-link.ensures c.requires.0).inside in record { fits = omega (arith, c.requires.2) }

pub bounds-links-link : goal.bounds-links-link
bounds-links-link c =
    let seek = c.seek-link in
    step_room _ _ _ _ (seek.ensures c.requires.0)

pub returns-then-old-ne0 : goal.returns-then-old-ne0
returns-then-old-ne0 c =
    let seek = c.seek-link in
    let from = c.from-old in
    λ t. step_old t _ _ _ (seek.ensures t) from.ensures c.if-old-ne0.true

pub offset_bounds-links-link-2 : goal.offset_bounds-links-link-2
offset_bounds-links-link-2 c =
    let seek = c.seek-link in
    let i = (seek.ensures c.requires.0).inside in record { fits = omega (arith, c.requires.2) }

pub bounds-links-link-2 : goal.bounds-links-link-2
bounds-links-link-2 c =
    let seek = c.seek-link in
    step_room _ _ _ _ (seek.ensures c.requires.0)

pub returns : goal.returns
returns c =
    let seek = c.seek-link in
    let from = c.from-old in
    λ t. step_new t _ _ _ (seek.ensures t) from.ensures c.if-old-ne0.false c.requires.1 c.requires.3 c.ranges.b.fits
