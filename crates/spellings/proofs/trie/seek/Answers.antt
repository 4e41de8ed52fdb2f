use native.Mathlib.Omega.{arith}
use Rattle.spellings.specs.TrieSearch.{seek_start, seek-inside, seek-further, seek-ends}
use Rattle.spellings.proofs.trie.seek.Goals as goal

pub bounds-links-link : goal.bounds-links-link
bounds-links-link c =
    let t = c.requires.0 in let l = t.links_room in let b = t.byte-room in omega (arith, c.requires.1)

pub loop-at-init : goal.loop-at-init
loop-at-init c =
    (c.from-at.ensures, λ t. seek_start t _ _ c.requires.1 c.from-bits.ensures)

pub bounds-byte-at : goal.bounds-byte-at
bounds-byte-at c =
    let loop = c.loop-at in
    let t = c.requires.0 in let r = t.byte-room in omega (arith, seek-inside t _ _ c.requires.1 (loop.invariant.1 t) loop.invariant.0)

pub returns-then-byte-at : goal.returns-then-byte-at
returns-then-byte-at c =
    let loop = c.loop-at in
    λ t. seek-ends t _ _ c.requires.1 (loop.invariant.1 t) loop.invariant.0 c.ranges.b.fits (λ d. c.if-byte-at.true)

pub overflow_mul-link-in-loop-at : goal.overflow_mul-link-in-loop-at
overflow_mul-link-in-loop-at c =
    let loop = c.loop-at in
    let t = c.requires.0 in let i = seek-inside t _ _ c.requires.1 (loop.invariant.1 t) loop.invariant.0 in record { fits = omega (arith, c.requires.2) }

pub overflow_add-link-in-loop-at : goal.overflow_add-link-in-loop-at
overflow_add-link-in-loop-at c =
    let loop = c.loop-at in
    let t = c.requires.0 in let i = seek-inside t _ _ c.requires.1 (loop.invariant.1 t) loop.invariant.0 in record { fits = omega (arith, c.requires.2) }

pub offset_bounds-links-link-in-loop-at : goal.offset_bounds-links-link-in-loop-at
offset_bounds-links-link-in-loop-at c =
    let loop = c.loop-at in
    let t = c.requires.0 in let i = seek-inside t _ _ c.requires.1 (loop.invariant.1 t) loop.invariant.0 in record { fits = omega (arith, c.requires.2) }

pub bounds-links-link-in-loop-at : goal.bounds-links-link-in-loop-at
bounds-links-link-in-loop-at c =
    let loop = c.loop-at in
    let t = c.requires.0 in let l = t.links_room in let r = t.byte-room in let i = seek-inside t _ _ c.requires.1 (loop.invariant.1 t) loop.invariant.0 in omega arith

pub loop-at-smaller : goal.loop-at-smaller
loop-at-smaller c =
    let loop = c.loop-at in
    let loop-test = c.loop-at-test in
    let if1 = c.if-byte-at in
    let t = c.requires.0 in let s = seek-further t _ _ c.requires.1 (loop.invariant.1 t) loop.invariant.0 loop-test.true if1.false in let i = s.0.inside in omega (arith, s.1)

pub loop-at-preserved : goal.loop-at-preserved
loop-at-preserved c =
    let loop = c.loop-at in
    let loop-test = c.loop-at-test in
    let if1 = c.if-byte-at in
    (c.from-at-in-loop-at.ensures, λ t. (seek-further t _ _ c.requires.1 (loop.invariant.1 t) loop.invariant.0 loop-test.true if1.false).0)

pub returns : goal.returns
returns c =
    let loop = c.loop-at in
    λ t. seek-ends t _ _ c.requires.1 (loop.invariant.1 t) loop.invariant.0 c.ranges.b.fits (λ d. absurd (d c.loop-at-test.false))
